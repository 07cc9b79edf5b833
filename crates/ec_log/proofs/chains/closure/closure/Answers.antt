use Rattle.std.proofs.Common.{◌≡◌, ◌∙◌, ◌<◌, ℕ, [], ap, refl, sym, subst, length, take, Option, None, Some}
use Rattle.std.specs.Prelude.{T, ◌||◌, slice_get}
use Rattle.std.specs.Ordering.{nat_cmp}
use Rattle.std.specs.FinMap.{is_sorted}
use Rattle.std.proofs.lemmas.Option.{slice_get_read}
use Rattle.ec_base.specs.Tables.{keys}
use Rattle.ec_volume.specs.declared.update.Update.{Update}
use Rattle.ec_volume.specs.declared.update.Update.TheVariants.{Order}
use Rattle.ec_log.specs.OfChains.Chains.{AreLinked}
use Rattle.ec_order.specs.OfNeeded.Needed.{is_needed}
use Rattle.ec_log.specs.OfChains.Slots.{placed}
use Rattle.ec_log.specs.OfChains.Walk.{passes}
use Rattle.ec_log.proofs.OfChains.Live.{placed-length, placed-take, placed-there, there-apart, there-one, walk-live, none-awaits}
use Rattle.ec_log.proofs.OfChains.Places.{get-front}
use Rattle.ec_log.proofs.OfChains.Onward.{walking-begins, walking-sorted, walking-linked, walking-passes, walking-goes, walking-ends}
use Rattle.ec_log.proofs.chains.closure.closure.Goals as goal

pub walk-init : goal.walk-init
walk-init c = (
  walking-begins c.args.ask.now (placed c.args.held.now) c.in_ok-places.places c.new-ops.result.items c.new-needed.result.others c.new-needed.result.ranges c.new-ops.ensures.items c.new-needed.ensures.others c.new-needed.ensures.ranges c.in_ok-places.ensures.ahead c.in_ok-places.ensures.within,
  there-apart c.args.ask.now c.args.held.now c.requires.sorted c.requires.there,
)

pub walk-preserved-in_default-update : goal.walk-preserved-in_default-update
walk-preserved-in_default-update c =
    let rest = c.walk.rest.now in
    let place = c.in-Some.place in
    let x : ℕ × Option Update = c.index-rest-place.result in
    let there : slice_get rest place ≡ Some x = slice_get_read rest (length rest) place x refl (subst (λ n. place < n) (placed-length rest) ((c.walk.invariant.0).within place c.in-Some.ensures.some.there)) c.index-rest-place.is in
    let left : slice_get rest place ≡ Some (x.0, None) = there ∙ ap (λ o. Some (x.0, o)) c.in_default-update.is in (
      walking-passes c.args.ask.now (placed c.args.held.now) (placed c.walk.rest.now) c.walk.places c.walk.ops.items c.walk.needed.others c.walk.needed.ranges c.walk.invariant.0 c.requires.sorted (there-one c.args.ask.now c.args.held.now c.requires.there) place c.take_last.new.places c.in-Some.ensures.some (x.0, Order [])
          (placed-there rest place (x.0, None) left) (placed (take place rest)) (placed-take place rest) c.take_last.new.places (none-awaits (placed (take place rest)) c.take_last.new.places)
          (ap (λ b. b || is_needed c.walk.needed.others c.walk.needed.ranges (Order [])) (c.walk.invariant.1 place x.0 left)),
      λ i n e. c.walk.invariant.1 i n (get-front place i rest (n, None) e),
    )

pub await_operands-requires-clause-sorted : goal.await_operands-requires-clause-sorted
await_operands-requires-clause-sorted c =
    subst (λ l. T (is_sorted nat_cmp l)) (sym (placed-take c.in-Some.place c.walk.rest.now))
    (walking-sorted c.args.ask.now (placed c.args.held.now) (placed c.walk.rest.now) c.walk.places c.walk.ops.items c.walk.needed.others c.walk.needed.ranges c.walk.invariant.0 c.in-Some.place c.requires.sorted)

pub await_operands-requires-clause-linked : goal.await_operands-requires-clause-linked
await_operands-requires-clause-linked c =
    subst (AreLinked c.args.chains.now) (sym (placed-take c.in-Some.place c.walk.rest.now))
    (walking-linked c.args.ask.now (placed c.args.held.now) (placed c.walk.rest.now) c.walk.places c.walk.ops.items c.walk.needed.others c.walk.needed.ranges c.walk.invariant.0 c.in-Some.place c.args.chains.now c.requires.linked)

pub walk-preserved : goal.walk-preserved
walk-preserved c =
    let rest = c.walk.rest.now in
    let place = c.in-Some.place in
    let x : ℕ × Option Update = c.index-rest-place.result in
    let there : slice_get rest place ≡ Some x = slice_get_read rest (length rest) place x refl (subst (λ n. place < n) (placed-length rest) ((c.walk.invariant.0).within place c.in-Some.ensures.some.there)) c.index-rest-place.is in
    let held : slice_get rest place ≡ Some (x.0, Some c.in-Some-update.update) = there ∙ ap (λ o. Some (x.0, o)) c.in-Some-update.is in (
      walking-goes c.args.ask.now (placed c.args.held.now) (placed c.walk.rest.now) c.walk.places c.walk.ops.items c.walk.needed.others c.walk.needed.ranges c.walk.invariant.0 c.requires.sorted (there-one c.args.ask.now c.args.held.now c.requires.there) place c.take_last.new.places c.in-Some.ensures.some (x.0, c.in-Some-update.update)
          (placed-there rest place (x.0, Some c.in-Some-update.update) held) (placed (take place rest)) (placed-take place rest) c.await_operands.new.places c.in_ok-await_operands.ensures
          c.choose.new.ops.items c.choose.new.needed.others c.choose.new.needed.ranges c.in_ok-choose.ensures.chosen c.in_ok-choose.ensures.others,
      λ i n e. c.walk.invariant.1 i n (get-front place i rest (n, None) e),
    )

pub returns : goal.returns
returns c =
    c.reverse.ensures.items
    ∙ walking-ends c.args.ask.now (placed c.args.held.now) (placed c.walk.rest.now) c.walk.places c.walk.ops.items c.walk.needed.others c.walk.needed.ranges c.walk.invariant.0 c.in_default.ensures.none
    ∙ ap keys (walk-live (passes c.args.ask.now) c.args.held.now (there-apart c.args.ask.now c.args.held.now c.requires.sorted c.requires.there))
