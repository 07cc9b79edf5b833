use Rattle.std.proofs.Common.{◌∙◌, refl, sym, subst, not}
use Rattle.ec_volume.specs.Update.{member}
use Rattle.ec_pending.specs.Pending.{is_asked, AreRising}
use Rattle.ec_pending.proofs.Covering.{fewer-left, none-left, one-covered, part-all, part-left}
use Rattle.ec_pending.proofs.Rising.{rising-part}
use Rattle.ec_pending.proofs.early.cover_early.Goals as goal

pub each-init : goal.each-init
each-init c = (c.requires, refl, part-all c.args.order.now)

pub each-smaller : goal.each-smaller
each-smaller c = fewer-left c.in-Some.op c.deref.result.now c.each.order c.settle.new.self c.in-Ok.ensures.held (c.deref.ensures.value ∙ c.in-Ok.ensures.ops) c.settle.ensures

pub each-preserved : goal.each-preserved
each-preserved c = (
  subst (AreRising c.args.places.now) (sym c.settle.ensures) (rising-part c.args.places.now (λ x. not (member x.0 c.deref.result.now)) c.each.order c.each.invariant.0),
  one-covered c.args.places.now (is_asked c.args.asked.now) c.in-Some.op c.deref.result.now c.each.order c.settle.new.self c.in-Some.ensures.sorted c.in-Some.ensures.next (c.deref.ensures.value ∙ c.in-Ok.ensures.ops) c.settle.ensures ∙ c.each.invariant.1,
  part-left c.deref.result.now c.args.order.now c.each.order c.settle.new.self c.each.invariant.2 c.settle.ensures,
)

pub returns-clause-rest : goal.returns-clause-rest
returns-clause-rest c = sym (none-left c.args.places.now (is_asked c.args.asked.now) c.each.order c.in_default.ensures.next) ∙ c.each.invariant.1
