use Rattle.std.proofs.Common.{◌∙◌, ◌+◌, sym, subst, not}
use Rattle.ec_volume.specs.Update.{member}
use Rattle.ec_pending.specs.Pending.{is_asked, AreEarly, AreRising, AreUpTo, IsPart}
use Rattle.ec_pending.proofs.Holding.{behind-filter, early-part}
use Rattle.ec_pending.proofs.Leaving.{left-view}
use Rattle.ec_pending.proofs.Rising.{rising-part}
use Rattle.ec_pending.proofs.pending.Pending.cover.Goals as goal

pub invariant_of-self : goal.invariant_of-self
invariant_of-self c =
    let part : IsPart c.cover_early.new.order c.self.inside.order = c.cover_early.ensures.part in (
      subst (AreUpTo c.self.inside.count) (sym part.1) (behind-filter (c.self.inside.count + 1) part.0 c.self.inside.order c.self.invariant.0),
      c.self.invariant.1,
      subst (AreEarly c.self.inside.lasts c.self.inside.places) (sym part.1) (early-part c.self.inside.lasts c.self.inside.places part.0 c.self.inside.order c.self.invariant.2),
      (λ e. subst (AreRising c.self.inside.places) (sym part.1) (rising-part c.self.inside.places part.0 c.self.inside.order (c.self.invariant.3 e))),
    )

pub invariant_of-self-2 : goal.invariant_of-self-2
invariant_of-self-2 c = (
  subst (AreUpTo c.self.inside.count) (sym c.settle.ensures) (behind-filter (c.self.inside.count + 1) (λ x. not (member x.0 c.deref.result.now)) c.self.inside.order c.self.invariant.0),
  c.self.invariant.1,
  subst (AreEarly c.self.inside.lasts c.self.inside.places) (sym c.settle.ensures) (early-part c.self.inside.lasts c.self.inside.places (λ x. not (member x.0 c.deref.result.now)) c.self.inside.order c.self.invariant.2),
  (λ e. subst (AreRising c.self.inside.places) (sym c.settle.ensures) (rising-part c.self.inside.places (λ x. not (member x.0 c.deref.result.now)) c.self.inside.order (c.self.invariant.3 e))),
)

pub returns-clause-pending : goal.returns-clause-pending
returns-clause-pending c =
    left-view c.self.inside.count c.self.inside.places c.self.inside.order c.settle.new.self c.args.self.now (is_asked c.args.asked.now) c.deref.result.now c.self.view_is (c.deref.ensures.value ∙ c.in_ok-ops.ensures.ops) c.covered.ensures.sorted c.settle.ensures
