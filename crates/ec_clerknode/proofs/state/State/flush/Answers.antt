use Rattle.std.proofs.Common.{◌+◌, ◌∙◌, refl, subst, arith, sym, []}
use Rattle.ec_clerknode.specs.declared.clerk.Refused.TheVariants as refused
use Rattle.ec_clerknode.specs.Folded.{picked}
use Rattle.ec_clerknode.specs.FoldedAnswers.{RefusesStep as Refuses}
use Rattle.ec_clerknode.proofs.Acts.{flushed, not_flushed}
use Rattle.ec_clerknode.specs.Closed.{Fails}
use Rattle.ec_clerknode.proofs.Nodes.{follows_alone, falls, nothing_came}
use Rattle.ec_clerknode.proofs.Turns.{fell_fails}
use Rattle.ec_clerknode.proofs.state.State.flush.Goals as goal

pub returns-in_err-close-in-Ok-clause-keeps : goal.returns-in_err-close-in-Ok-clause-keeps
returns-in_err-close-in-Ok-clause-keeps g c =
    let a = flushed c.args.self.now.clerk c.flush.new.clerk c.step-act.result c.of-shot.result c.args.asked c.in-Ok.outs.items c.of-shot.ensures c.in-Ok.ensures.ok c.step-act.ensures in
    follows_alone (λ l. g.L.Link.faults l + g.L.Link.closes l) g.L.Link.given g.L.Link.got c.args.pass c.step-act.result c.close.ensures.grown.0 c.args.self.now c.close.new.self c.flush.new.clerk c.in_ok-check.ensures.ok.0 a.0 a.1 c.close.ensures.grown.1

pub returns-in_ok-close-in-Ok-clause-keeps : goal.returns-in_ok-close-in-Ok-clause-keeps
returns-in_ok-close-in-Ok-clause-keeps g c =
    let a = flushed c.args.self.now.clerk c.flush.new.clerk c.step-act.result c.of-shot.result c.args.asked c.in-Ok.outs.items c.of-shot.ensures c.in-Ok.ensures.ok c.step-act.ensures in
    follows_alone (λ l. g.L.Link.faults l + g.L.Link.closes l) g.L.Link.given g.L.Link.got c.args.pass c.step-act.result c.close.ensures.grown.0 c.args.self.now c.close.new.self c.flush.new.clerk c.in_ok-check.ensures.ok.0 a.0 a.1 c.close.ensures.grown.1

pub returns-in_err-close-in-Err-Spent-clause-keeps : goal.returns-in_err-close-in-Err-Spent-clause-keeps
returns-in_err-close-in-Err-Spent-clause-keeps g c =
    let r : Refuses (refused.Spent c.in-Err-Spent.counter) (picked c.args.asked c.args.self.now.clerk) c.args.self.now.clerk c.flush.new.clerk = subst (λ f. Refuses f (picked c.args.asked c.args.self.now.clerk) c.args.self.now.clerk c.flush.new.clerk) c.in-Err-Spent.field-0-is c.in-Err-Spent.ensures.err in
    let a = not_flushed c.args.self.now.clerk c.flush.new.clerk c.mark-act.result c.of-shot.result c.args.asked c.in-Err-Spent.counter c.of-shot.ensures r.0 r.1 c.mark-act.ensures in
    follows_alone (λ l. g.L.Link.faults l + g.L.Link.closes l) g.L.Link.given g.L.Link.got c.args.pass c.mark-act.result c.close-in-Err-Spent.ensures.grown.0 c.args.self.now c.close-in-Err-Spent.new.self c.flush.new.clerk c.in_ok-check.ensures.ok.0 a.0 a.1 c.close-in-Err-Spent.ensures.grown.1

pub returns-in_ok-close-in-Ok-clause-flushes : goal.returns-in_ok-close-in-Ok-clause-flushes
returns-in_ok-close-in-Ok-clause-flushes g c =
    let k = c.in_ok-close-in-Ok.ensures.grown in
    (k.2.0, c.in_ok-check.ensures.ok.0, (k.0, c.of-shot.result, c.of-shot.ensures, k.1.deed_is ∙ c.step-act.ensures.0, c.in-Ok.ensures.answer, (k.1.list, (k.1.pass_is, tt))))

pub returns-in-Err-NoMemory-clause-keeps : goal.returns-in-Err-NoMemory-clause-keeps
returns-in-Err-NoMemory-clause-keeps g c = falls (λ l. g.L.Link.faults l + g.L.Link.closes l) g.L.Link.given g.L.Link.got c.args.pass c.args.self.now c.breaks.new.self c.flush.new.clerk c.args.self.now.link c.in_ok-check.ensures.ok.0 (nothing_came (λ l. g.L.Link.faults l + g.L.Link.closes l) g.L.Link.given g.L.Link.got c.args.self.now.link) refl (omega arith) c.breaks.ensures.fell

pub returns-in-Err-NoMemory-clause-flushes : goal.returns-in-Err-NoMemory-clause-flushes
returns-in-Err-NoMemory-clause-flushes g c = subst (λ f. Fails c.args.pass [] c.args.self.now c.breaks.new.self f) (sym c.breaks.ensures.fault) (fell_fails c.args.pass [] c.args.self.now _ c.breaks.new.self refl c.breaks.ensures.fell)
