use Rattle.std.proofs.Common.{◌≡◌, ◌≤◌, ◌+◌, ◌∙◌, ◌++◌, ◌∷◌, [], true, arith, ap, refl, subst, take, drop, length}
use Rattle.ec_log.specs.OfChains.Held.{is_behind}
use Rattle.ec_log.specs.OfChains.Slots.{live, placed}
use Rattle.ec_log.proofs.OfChains.Emptied.{IsHeld, more-live, more-held}
use Rattle.ec_log.proofs.OfChains.Live.{live-shorter}
use Rattle.ec_log.proofs.chains.held.Held.push.Goals as goal

pub overflow_add-self : goal.overflow_add-self
overflow_add-self c =
    let h : IsHeld c.self.inside.gone c.self.inside.slots.items c.self.inside.count = c.self.invariant in
    let same : c.self.inside.count ≡ length (live c.self.inside.slots.items) = h.3 in
    let short = live-shorter c.self.inside.slots.items in
    let whole = ap length c.deref.ensures.value in
    let bound = c.deref.type_inv.1 in
    omega (arith, same, short, whole, bound)

pub invariant_of-self-2 : goal.invariant_of-self-2
invariant_of-self-2 c =
    let items = c.self.inside.slots.items in
    let end = c.end_below-end.result in
    more-held c.self.inside.gone c.self.inside.count c.args.op end items c.self.invariant (subst (λ s. end ≤ length s) c.deref.ensures.value c.end_below-end.ensures.within) (subst (λ s. live (drop end s) ≡ []) c.deref.ensures.value c.end_below-end.ensures.gone)
    c.min-self-inside.result c.min-self-inside.ensures c.truncate.new.self.items c.truncate.ensures.items c.args.update (subst (λ s. is_behind c.args.op (placed (take end s)) ≡ true) c.deref.ensures.value c.end_below-end.ensures.below)
    c.push.new.self.items c.in_ok-push.ensures.items (c.self.inside.count + 1) refl

pub returns-clause-ok : goal.returns-clause-ok
returns-clause-ok c =
    let items = c.self.inside.slots.items in
    let end = c.end_below-end.result in
    more-live c.self.inside.gone c.self.inside.count c.args.op end items c.self.invariant (subst (λ s. end ≤ length s) c.deref.ensures.value c.end_below-end.ensures.within) (subst (λ s. live (drop end s) ≡ []) c.deref.ensures.value c.end_below-end.ensures.gone)
    c.min-self-inside.result c.min-self-inside.ensures c.truncate.new.self.items c.truncate.ensures.items c.args.update (subst (λ s. is_behind c.args.op (placed (take end s)) ≡ true) c.deref.ensures.value c.end_below-end.ensures.below)
    c.push.new.self.items c.in_ok-push.ensures.items
    ∙ ap (λ l. l ++ (c.args.op, c.args.update) ∷ []) c.self.view_is
