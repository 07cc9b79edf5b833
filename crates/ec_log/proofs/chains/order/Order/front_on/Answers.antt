use Rattle.std.proofs.Common.{◌∙◌, ap, sym, subst, take}
use Rattle.std.specs.Prelude.{T}
use Rattle.std.specs.Ordering.{nat_cmp}
use Rattle.std.specs.FinMap.{is_sorted}
use Rattle.std.proofs.lemmas.Result.{IfOk-weaker}
use Rattle.ec_base.specs.Tables.{keys}
use Rattle.ec_volume.specs.Update.{member}
use Rattle.ec_log.specs.OfChains.Chains.{AreLinked}
use Rattle.ec_log.specs.OfChains.Front.{Covers, IsBound, IsFront}
use Rattle.ec_log.specs.OfChains.Slots.{placed}
use Rattle.ec_log.specs.OfChains.Walk.{passes, walk}
use Rattle.ec_log.specs.declared.chains.closure.Ask.TheVariants.{Object}
use Rattle.ec_log.proofs.OfChains.Firsts.{front-live}
use Rattle.ec_log.proofs.OfChains.Fronts.{bound-object, front-of, sorted-front}
use Rattle.ec_log.proofs.OfChains.Live.{placed-take, linked-placed, covers-placed, object-apart, walk-live}
use Rattle.ec_log.proofs.OfChains.Places.{linked-front}
use Rattle.ec_log.proofs.chains.order.Order.front_on.Goals as goal

pub reach_on-place-requires-clause-linked : goal.reach_on-place-requires-clause-linked
reach_on-place-requires-clause-linked c = λ n u h t.
    subst (λ l. T (member n l)) (sym c.chain_of.ensures.value) ((linked-placed c.self.inside.chains c.slots-held.result.now (subst (AreLinked c.self.inside.chains) (sym c.slots-held.ensures.value) c.self.invariant.1)) c.args.obj n u h t)

pub reach_on-place-requires-clause-bound : goal.reach_on-place-requires-clause-bound
reach_on-place-requires-clause-bound c =
    let held = placed c.slots-held.result.now in
    subst (IsBound (Object c.args.obj) held) (sym c.last_on-bound.ensures)
    (bound-object c.self.inside.shared held c.args.obj (covers-placed c.self.inside.shared c.slots-held.result.now (subst (Covers c.self.inside.shared) (sym c.slots-held.ensures.value) c.self.invariant.0)))

pub closure-requires-clause-sorted : goal.closure-requires-clause-sorted
closure-requires-clause-sorted c =
    subst (λ l. T (is_sorted nat_cmp l)) (sym (placed-take c.reach_on-place.result c.slots-held.result.now)) (sorted-front c.reach_on-place.result (placed c.slots-held.result.now) c.slots-held.ensures.rising)

pub closure-requires-clause-linked : goal.closure-requires-clause-linked
closure-requires-clause-linked c =
    subst (AreLinked c.self.inside.chains) (sym (placed-take c.reach_on-place.result c.slots-held.result.now))
    (linked-front c.self.inside.chains c.reach_on-place.result (placed c.slots-held.result.now) (linked-placed c.self.inside.chains c.slots-held.result.now (subst (AreLinked c.self.inside.chains) (sym c.slots-held.ensures.value) c.self.invariant.1)))

pub returns : goal.returns
returns c =
    let ask = Object c.args.obj in
    let slots = c.slots-held.result.now in
    let most = c.args.most in
    let place = c.reach_on-place.result in
    IfOk-weaker c.closure.result _ _ (λ ops is.
    subst (λ l. IsFront (Object c.args.obj) l most ops.items) (c.slots-held.ensures.value ∙ c.self.view_is)
    (front-live ask slots most ops.items c.slots-held.ensures.rising (object-apart c.args.obj slots)
    (subst (IsFront ask (placed slots) most) (sym (is ∙ ap keys (sym (walk-live (passes ask) (take place slots) (object-apart c.args.obj (take place slots)))) ∙ ap (λ l. keys (walk (passes ask) l)) (placed-take place slots)))
    (front-of ask (placed slots) c.slots-held.ensures.rising place most c.reach_on-place.ensures.needs_asked c.reach_on-place.ensures.enough))))
    c.closure.ensures
