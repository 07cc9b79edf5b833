use Rattle.std.proofs.Common.{◌+◌, [], refl, sym, subst, arith}
use Rattle.ec_clerknode.specs.Closed.{Fails}
use Rattle.ec_clerknode.proofs.Acts.{again}
use Rattle.ec_clerknode.proofs.Nodes.{follows_alone, falls, nothing_came}
use Rattle.ec_clerknode.proofs.Turns.{fell_fails, resends_so}
use Rattle.ec_clerknode.proofs.state.State.resend.Goals as goal

pub returns-in-Ok-clause-keeps : goal.returns-in-Ok-clause-keeps
returns-in-Ok-clause-keeps g c =
    let a = again c.args.self.now.clerk c.resend.new.clerk c.step.result c.in-Ok.outs.items c.in-Ok.ensures c.step.ensures in
    follows_alone (λ l. g.L.Link.faults l + g.L.Link.closes l) g.L.Link.given g.L.Link.got c.args.pass c.step.result c.close.ensures.grown.0 c.args.self.now c.close.new.self c.resend.new.clerk c.in_ok-check.ensures.ok.0 a.0 a.1 c.close.ensures.grown.1

pub returns-in-Ok-clause-resends : goal.returns-in-Ok-clause-resends
returns-in-Ok-clause-resends g c =
    let k = c.close.ensures.grown in
    resends_so (λ l. g.L.Link.faults l + g.L.Link.closes l) g.L.Link.given g.L.Link.got c.args.pass c.step.result k.0 c.args.self.now (record c.args.self.now { clerk = c.resend.new.clerk }) c.close.new.self c.close.result refl c.step.ensures.0 c.step.ensures.2 k.1 k.2

pub returns-in-Err-clause-keeps : goal.returns-in-Err-clause-keeps
returns-in-Err-clause-keeps g c = falls (λ l. g.L.Link.faults l + g.L.Link.closes l) g.L.Link.given g.L.Link.got c.args.pass c.args.self.now c.breaks.new.self c.resend.new.clerk c.args.self.now.link c.in_ok-check.ensures.ok.0 (nothing_came (λ l. g.L.Link.faults l + g.L.Link.closes l) g.L.Link.given g.L.Link.got c.args.self.now.link) refl (omega arith) c.breaks.ensures.fell

pub returns-in-Err-clause-resends : goal.returns-in-Err-clause-resends
returns-in-Err-clause-resends g c = subst (λ f. Fails c.args.pass [] c.args.self.now c.breaks.new.self f) (sym c.breaks.ensures.fault) (fell_fails c.args.pass [] c.args.self.now _ c.breaks.new.self refl c.breaks.ensures.fell)
