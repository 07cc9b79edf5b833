use Rattle.std.proofs.Common.{◌+◌, None, Some, ◌∙◌, ap, subst, sym, refl, []}
use Rattle.ec_link.specs.Links.{added}
use Rattle.ec_link.specs.LinkAnswers.{heard}
use Rattle.ec_clerknode.specs.Closed.{Fails, Hears}
use Rattle.ec_clerknode.proofs.Nodes.{follows, read_none, falls, heard_short, counts_more, counts_up}
use Rattle.ec_clerknode.proofs.Turns.{fell_fails}
use Rattle.ec_clerknode.proofs.state.State.hear_link.Goals as goal

pub returns-in_err-close-in-Ok-Some-clause-keeps : goal.returns-in_err-close-in-Ok-Some-clause-keeps
returns-in_err-close-in-Ok-Some-clause-keeps g c =
    let h : Hears c.args.self.now.clerk c.recv-got.result c.hear.new.clerk (Some c.in-Ok-Some.act) = subst (Hears c.args.self.now.clerk c.recv-got.result c.hear.new.clerk) c.in-Ok-Some.field-0-is c.in-Ok-Some.ensures.hears in
    follows (λ l. g.L.Link.faults l + g.L.Link.closes l) g.L.Link.given g.L.Link.got c.args.pass c.in-Ok-Some.act c.close.ensures.grown.0 c.args.self.now c.close.new.self c.hear.new.clerk c.recv-got.new.self c.in_ok-check.ensures.ok.0 h.0
    (c.recv-got.ensures.given ∙ ap (added (g.L.Link.given c.args.self.now.link)) h.1) c.recv-got.ensures.got (counts_more _ _ _ _ _ _ _ c.recv-got.ensures.faults c.recv-got.ensures.closes h.2) c.close.ensures.grown.1

pub returns-in_ok-close-in-Ok-Some-clause-keeps : goal.returns-in_ok-close-in-Ok-Some-clause-keeps
returns-in_ok-close-in-Ok-Some-clause-keeps g c =
    let h : Hears c.args.self.now.clerk c.recv-got.result c.hear.new.clerk (Some c.in-Ok-Some.act) = subst (Hears c.args.self.now.clerk c.recv-got.result c.hear.new.clerk) c.in-Ok-Some.field-0-is c.in-Ok-Some.ensures.hears in
    follows (λ l. g.L.Link.faults l + g.L.Link.closes l) g.L.Link.given g.L.Link.got c.args.pass c.in-Ok-Some.act c.close.ensures.grown.0 c.args.self.now c.close.new.self c.hear.new.clerk c.recv-got.new.self c.in_ok-check.ensures.ok.0 h.0
    (c.recv-got.ensures.given ∙ ap (added (g.L.Link.given c.args.self.now.link)) h.1) c.recv-got.ensures.got (counts_more _ _ _ _ _ _ _ c.recv-got.ensures.faults c.recv-got.ensures.closes h.2) c.close.ensures.grown.1

pub returns-in-Ok-None-clause-keeps : goal.returns-in-Ok-None-clause-keeps
returns-in-Ok-None-clause-keeps g c =
    let h : Hears c.args.self.now.clerk c.recv-got.result c.hear.new.clerk None = subst (Hears c.args.self.now.clerk c.recv-got.result c.hear.new.clerk) c.in-Ok-None.field-0-is c.in-Ok-None.ensures.hears in
    read_none (λ l. g.L.Link.faults l + g.L.Link.closes l) g.L.Link.given g.L.Link.got c.args.self.now c.hear.new.clerk c.recv-got.new.self h.0
    (c.recv-got.ensures.given ∙ ap (added (g.L.Link.given c.args.self.now.link)) h.1) c.recv-got.ensures.got (counts_up _ _ _ _ _ _ c.recv-got.ensures.faults c.recv-got.ensures.closes)

pub returns-in-Err-clause-keeps : goal.returns-in-Err-clause-keeps
returns-in-Err-clause-keeps g c = falls (λ l. g.L.Link.faults l + g.L.Link.closes l) g.L.Link.given g.L.Link.got c.args.pass c.args.self.now c.breaks.new.self c.hear.new.clerk c.recv-got.new.self c.in_ok-check.ensures.ok.0 (heard c.recv-got.result, heard_short c.recv-got.result, c.recv-got.ensures.given) c.recv-got.ensures.got (counts_up _ _ _ _ _ _ c.recv-got.ensures.faults c.recv-got.ensures.closes) c.breaks.ensures.fell

pub returns-in-Err-clause-works : goal.returns-in-Err-clause-works
returns-in-Err-clause-works g c = subst (λ f. Fails c.args.pass [] c.args.self.now c.breaks.new.self f) (sym c.breaks.ensures.fault) (fell_fails c.args.pass [] c.args.self.now _ c.breaks.new.self refl c.breaks.ensures.fell)
