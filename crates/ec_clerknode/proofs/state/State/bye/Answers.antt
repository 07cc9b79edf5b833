use Rattle.std.specs.Prelude.{not}
use Rattle.std.proofs.Common.{◌≡◌, ◌+◌, true, [], append-nil, IfSome, IfNone, refl, sym, ap, ◌∙◌, subst, arith}
use Rattle.ec_outs.specs.Outs.{sends}
use Rattle.ec_outs.proofs.Told.{added-nil}
use Rattle.ec_clerknode.specs.Closed.{Fails}
use Rattle.ec_clerknode.specs.Folded.{parted}
use Rattle.ec_clerknode.specs.FoldedAnswers.{ComesOut as Comes}
use Rattle.ec_clerknode.specs.Run.{says_bye}
use Rattle.ec_clerknode.proofs.Acts.{left}
use Rattle.ec_clerknode.proofs.Nodes.{follows_alone, read_none, falls, nothing_came}
use Rattle.ec_clerknode.proofs.Turns.{fell_fails, parts_so}
use Rattle.ec_clerknode.proofs.state.State.bye.Goals as goal

pub returns-in_err-close-in-Ok-Some-clause-keeps : goal.returns-in_err-close-in-Ok-Some-clause-keeps
returns-in_err-close-in-Ok-Some-clause-keeps g c =
    let came : Comes (parted c.args.self.now.clerk) c.bye.new.clerk c.in-Ok-Some.outs.items = subst (λ o. IfSome o (λ outs. Comes (parted c.args.self.now.clerk) c.bye.new.clerk outs.items)) c.in-Ok-Some.field-0-is c.in-Ok-Some.ensures.ok in
    let a = left c.args.self.now.clerk c.bye.new.clerk c.step.result c.in-Ok-Some.outs.items came c.step.ensures in
    follows_alone (λ l. g.L.Link.faults l + g.L.Link.closes l) g.L.Link.given g.L.Link.got c.args.pass c.step.result c.close.ensures.grown.0 c.args.self.now c.close.new.self c.bye.new.clerk c.in_ok-check.ensures.ok.0 a.0 a.1 c.close.ensures.grown.1

pub returns-in_ok-close-in-Ok-Some-clause-keeps : goal.returns-in_ok-close-in-Ok-Some-clause-keeps
returns-in_ok-close-in-Ok-Some-clause-keeps g c =
    let came : Comes (parted c.args.self.now.clerk) c.bye.new.clerk c.in-Ok-Some.outs.items = subst (λ o. IfSome o (λ outs. Comes (parted c.args.self.now.clerk) c.bye.new.clerk outs.items)) c.in-Ok-Some.field-0-is c.in-Ok-Some.ensures.ok in
    let a = left c.args.self.now.clerk c.bye.new.clerk c.step.result c.in-Ok-Some.outs.items came c.step.ensures in
    follows_alone (λ l. g.L.Link.faults l + g.L.Link.closes l) g.L.Link.given g.L.Link.got c.args.pass c.step.result c.close.ensures.grown.0 c.args.self.now c.close.new.self c.bye.new.clerk c.in_ok-check.ensures.ok.0 a.0 a.1 c.close.ensures.grown.1

pub returns-in_ok-close-in-Ok-Some-clause-parts : goal.returns-in_ok-close-in-Ok-Some-clause-parts
returns-in_ok-close-in-Ok-Some-clause-parts g c =
    let k = c.in_ok-close-in-Ok-Some.ensures.grown in
    let said : says_bye (sends c.in-Ok-Some.outs.items) ≡ true = subst (λ o. IfSome o (λ outs. says_bye (sends outs.items) ≡ true)) c.in-Ok-Some.field-0-is c.in-Ok-Some.ensures.said in
    let old = c.args.self.now in
    let new = c.close.new.self in (
      k.2.0,
      parts_so c.args.pass old (record old { clerk = c.bye.new.clerk }) new k.0 new.lasts new.is_down (not new.is_down) c.step.result.fault refl (k.1.deed_is ∙ c.step.ensures.0) (ap (λ l. says_bye (sends l)) (k.1.outs_are ∙ c.step.ensures.1) ∙ said) k.2.1 refl (k.1.list, (k.1.pass_is, tt)),
    )

pub returns-in-Ok-None-clause-keeps : goal.returns-in-Ok-None-clause-keeps
returns-in-Ok-None-clause-keeps g c =
    let none : (c.bye.new.clerk ≡ c.args.self.now.clerk) × ((parted c.args.self.now.clerk).outs ≡ []) = subst (λ o. IfNone o ((c.bye.new.clerk ≡ c.args.self.now.clerk) × ((parted c.args.self.now.clerk).outs ≡ []))) c.in-Ok-None.field-0-is c.in-Ok-None.ensures.none in
    read_none (λ l. g.L.Link.faults l + g.L.Link.closes l) g.L.Link.given g.L.Link.got c.args.self.now c.bye.new.clerk c.args.self.now.link none.0 (sym (added-nil (g.L.Link.given c.args.self.now.link))) refl (omega arith)

pub returns-in-Ok-None-clause-parts : goal.returns-in-Ok-None-clause-parts
returns-in-Ok-None-clause-parts g c = (c.in_ok-check.ensures.ok.2, ([], (sym (append-nil c.args.self.now.trace.items), tt), refl))

pub returns-in-Err-clause-keeps : goal.returns-in-Err-clause-keeps
returns-in-Err-clause-keeps g c = falls (λ l. g.L.Link.faults l + g.L.Link.closes l) g.L.Link.given g.L.Link.got c.args.pass c.args.self.now c.breaks.new.self c.bye.new.clerk c.args.self.now.link c.in_ok-check.ensures.ok.0 (nothing_came (λ l. g.L.Link.faults l + g.L.Link.closes l) g.L.Link.given g.L.Link.got c.args.self.now.link) refl (omega arith) c.breaks.ensures.fell

pub returns-in-Err-clause-parts : goal.returns-in-Err-clause-parts
returns-in-Err-clause-parts g c = subst (λ f. Fails c.args.pass [] c.args.self.now c.breaks.new.self f) (sym c.breaks.ensures.fault) (fell_fails c.args.pass [] c.args.self.now _ c.breaks.new.self refl c.breaks.ensures.fell)

pub returns-then-self-clause-parts : goal.returns-then-self-clause-parts
returns-then-self-clause-parts g c = (c.in_ok-check.ensures.ok.2, ([], (sym (append-nil c.args.self.now.trace.items), tt), refl))
