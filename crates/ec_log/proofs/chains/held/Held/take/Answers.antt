use Rattle.std.proofs.Common.{◌≡◌, ◌∙◌, ◌∷◌, [], ap, sym, subst}
use Rattle.ec_base.specs.Tables.{at}
use Rattle.ec_volume.specs.declared.update.Update.{Update}
use Rattle.ec_order.specs.Order.{Holds}
use Rattle.ec_log.specs.OfChains.Chains.{IsAt}
use Rattle.ec_log.specs.OfChains.Held.{settle}
use Rattle.ec_log.specs.OfChains.Slots.{placed}
use Rattle.ec_log.proofs.OfChains.Emptied.{at-within, taken-value, taken-live, taken-held, taken-some, taken-same}
use Rattle.ec_log.proofs.OfChains.Live.{absent-live, absent-stays}
use Rattle.ec_log.proofs.chains.held.Held.take.Goals as goal

pub returns-in_default-clause-value : goal.returns-in_default-clause-value
returns-in_default-clause-value c = absent-live c.args.op c.self.inside.slots.items (subst (λ s. (u : Update) → Holds (placed s) c.args.op u → ⊥) c.deref.ensures.value c.in_default.ensures) ∙ ap (at c.args.op) c.self.view_is

pub returns-in_default-clause-rest : goal.returns-in_default-clause-rest
returns-in_default-clause-rest c =
    subst (λ l. l ≡ settle (c.args.op ∷ []) l) c.self.view_is (absent-stays c.args.op c.self.inside.slots.items (subst (λ s. (u : Update) → Holds (placed s) c.args.op u → ⊥) c.deref.ensures.value c.in_default.ensures))

pub take_at-taken-requires : goal.take_at-taken-requires
take_at-taken-requires c = at-within c.self.inside.slots.items c.args.op c.in-Ok.place (subst (λ s. IsAt c.args.op (placed s) c.in-Ok.place) c.deref.ensures.value c.in-Ok.ensures)

pub overflow_sub-self : goal.overflow_sub-self
overflow_sub-self c =
    taken-some c.self.inside.gone c.self.inside.count c.args.op c.in-Ok.place c.self.inside.slots.items c.take_at-taken.new.slots.items c.self.invariant (subst (λ s. IsAt c.args.op (placed s) c.in-Ok.place) c.deref.ensures.value c.in-Ok.ensures) c.take_at-taken.result c.take_at-taken.ensures.taken c.take_at-taken.ensures.rest
    (sym c.is_some.ensures ∙ c.if-is_some.true)

pub invariant_of-self : goal.invariant_of-self
invariant_of-self c =
    taken-held c.self.inside.gone c.self.inside.count c.args.op c.in-Ok.place c.self.inside.slots.items c.take_at-taken.new.slots.items c.self.invariant (subst (λ s. IsAt c.args.op (placed s) c.in-Ok.place) c.deref.ensures.value c.in-Ok.ensures) c.take_at-taken.result c.take_at-taken.ensures.taken c.take_at-taken.ensures.rest
    (sym c.is_some.ensures ∙ c.if-is_some.true)

pub invariant_of-self-else-is_some : goal.invariant_of-self-else-is_some
invariant_of-self-else-is_some c =
    taken-same c.self.inside.gone c.self.inside.count c.args.op c.in-Ok.place c.self.inside.slots.items c.take_at-taken.new.slots.items c.self.invariant (subst (λ s. IsAt c.args.op (placed s) c.in-Ok.place) c.deref.ensures.value c.in-Ok.ensures) c.take_at-taken.result c.take_at-taken.ensures.taken c.take_at-taken.ensures.rest
    (sym c.is_some.ensures ∙ c.if-is_some.false)

pub returns-then-is_some-clause-value : goal.returns-then-is_some-clause-value
returns-then-is_some-clause-value c =
    taken-value c.self.inside.gone c.self.inside.count c.args.op c.in-Ok.place c.self.inside.slots.items c.take_at-taken.new.slots.items c.self.invariant (subst (λ s. IsAt c.args.op (placed s) c.in-Ok.place) c.deref.ensures.value c.in-Ok.ensures) c.take_at-taken.result c.take_at-taken.ensures.taken c.take_at-taken.ensures.rest
    ∙ ap (at c.args.op) c.self.view_is

pub returns-then-is_some-clause-rest : goal.returns-then-is_some-clause-rest
returns-then-is_some-clause-rest c =
    c.trim.ensures
    ∙ taken-live c.self.inside.gone c.self.inside.count c.args.op c.in-Ok.place c.self.inside.slots.items c.take_at-taken.new.slots.items c.self.invariant (subst (λ s. IsAt c.args.op (placed s) c.in-Ok.place) c.deref.ensures.value c.in-Ok.ensures) c.take_at-taken.result c.take_at-taken.ensures.taken c.take_at-taken.ensures.rest
    ∙ ap (settle (c.args.op ∷ [])) c.self.view_is

pub returns-else-is_some-clause-value : goal.returns-else-is_some-clause-value
returns-else-is_some-clause-value c =
    taken-value c.self.inside.gone c.self.inside.count c.args.op c.in-Ok.place c.self.inside.slots.items c.take_at-taken.new.slots.items c.self.invariant (subst (λ s. IsAt c.args.op (placed s) c.in-Ok.place) c.deref.ensures.value c.in-Ok.ensures) c.take_at-taken.result c.take_at-taken.ensures.taken c.take_at-taken.ensures.rest
    ∙ ap (at c.args.op) c.self.view_is

pub returns-else-is_some-clause-rest : goal.returns-else-is_some-clause-rest
returns-else-is_some-clause-rest c =
    taken-live c.self.inside.gone c.self.inside.count c.args.op c.in-Ok.place c.self.inside.slots.items c.take_at-taken.new.slots.items c.self.invariant (subst (λ s. IsAt c.args.op (placed s) c.in-Ok.place) c.deref.ensures.value c.in-Ok.ensures) c.take_at-taken.result c.take_at-taken.ensures.taken c.take_at-taken.ensures.rest
    ∙ ap (settle (c.args.op ∷ [])) c.self.view_is
