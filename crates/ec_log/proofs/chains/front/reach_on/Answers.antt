use Rattle.std.proofs.Common.{◌+◌, ◌∙◌, ap, arith, refl, sym, subst, take, drop, length, ◌-◌}
use Rattle.std.specs.Prelude.{T}
use Rattle.std.specs.Ordering.{nat_cmp}
use Rattle.std.specs.FinMap.{is_sorted}
use Rattle.ec_volume.specs.Update.{has_operand}
use Rattle.ec_volume.specs.declared.update.Update.{Update}
use Rattle.ec_order.specs.Order.{Holds}
use Rattle.ec_log.specs.OfChains.Chains.{IsPlaceOn}
use Rattle.ec_log.specs.OfChains.Slots.{placed}
use Rattle.ec_log.proofs.OfChains.Chained.{tail-is}
use Rattle.ec_log.proofs.OfChains.Live.{placed-drop}
use Rattle.ec_log.proofs.OfChains.Reached.{AreFound, found-all, found-enough, found-past, found-next, sorted-behind}
use Rattle.ec_log.proofs.chains.front.reach_on.Goals as goal
use Rattle.ec_log.proofs.chains.front.reach_on.Goals.{in-Some, in_default}

pub returns-then-bound-op : goal.returns-then-bound-op
returns-then-bound-op c =
    let above = c.if-bound-op.true in
    let number = c.op.view_is in
    found-enough c.args.obj c.args.chain.now (placed c.args.held.now) c.requires.sorted c.requires.rising c.reach.op-index c.reach.place c.reach.found c.reach.invariant c.op-item.result c.reach-test.true c.op-item.is c.args.most c.args.bound c.requires.bound c.if-most-found.true
    (omega (arith, above, number))

pub place_on-requires : goal.place_on-requires
place_on-requires c =
    subst (λ xs. T (is_sorted nat_cmp xs)) (sym (ap placed (tail-is c.reach.place c.args.held.now c.args.held.now refl) ∙ placed-drop c.reach.place c.args.held.now)) (sorted-behind c.reach.place (placed c.args.held.now) c.requires.sorted)

pub reach-preserved : goal.reach-preserved
reach-preserved c =
    let slots = c.args.held.now in
    let held = placed slots in
    let obj = c.args.obj in
    let op = c.op-item.result in
    let index = c.reach.op-index in
    let rest-is = ap placed (tail-is c.reach.place slots slots refl) ∙ placed-drop c.reach.place slots in
    elim c.match-place_on.branch [
      | in-Some w ↦
          subst (λ k. AreFound obj c.args.chain.now held (index + 1) k c.match-place_on.found) (sym w.place-is)
          (subst (λ k. AreFound obj c.args.chain.now held (index + 1) (c.reach.place + (w.in-Some.at + 1)) k) (sym w.found-is)
          (found-next obj c.args.chain.now held c.requires.sorted c.requires.rising index c.reach.place c.reach.found c.reach.invariant op c.reach-test.true c.op-item.is w.in-Some.at (sorted-behind c.reach.place held c.requires.sorted)
          (subst (λ xs. IsPlaceOn op obj xs w.in-Some.at) rest-is (subst (λ n. IsPlaceOn n obj (placed (take (length slots - c.reach.place) (drop c.reach.place slots))) w.in-Some.at) c.op.view_is w.in-Some.ensures))))
      | in_default w ↦
          subst (λ k. AreFound obj c.args.chain.now held (index + 1) k c.match-place_on.found) (sym w.place-is)
          (subst (λ k. AreFound obj c.args.chain.now held (index + 1) c.reach.place k) (sym w.found-is)
          (found-past obj c.args.chain.now held c.requires.sorted c.requires.rising index c.reach.place c.reach.found c.reach.invariant op c.reach-test.true c.op-item.is
          (subst (λ xs. (u : Update) → Holds xs op u → T (has_operand obj u) → ⊥) rest-is (subst (λ n. (u : Update) → Holds (placed (take (length slots - c.reach.place) (drop c.reach.place slots))) n u → T (has_operand obj u) → ⊥) c.op.view_is w.in_default.ensures))))
    ]

pub returns : goal.returns
returns c = found-all c.args.obj c.args.chain.now (placed c.args.held.now) c.requires.sorted c.requires.rising c.reach.op-index c.reach.place c.reach.found c.reach.invariant c.args.most c.reach-test.false
