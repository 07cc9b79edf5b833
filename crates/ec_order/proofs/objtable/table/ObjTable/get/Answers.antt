use Rattle.std.proofs.Common.{◌∙◌, ◌<◌, ◌-◌, ℕ, sym, ap, subst, Some}
use Rattle.ec_order.specs.OfObjtable.Slots.{held}
use Rattle.ec_order.proofs.OfObjtable.Held.{behind-is, zero-is, place-below, held-is, none-held}
use Rattle.ec_order.proofs.objtable.table.ObjTable.get.Goals as goal

pub index-requires : goal.index-requires
index-requires g c = subst (λ n. c.place_of-behind.result - 1 < n) (sym c.self.inside.pairs.ok.0) (place-below c.self.inside.places.items c.self.inside.pairs.items c.self.invariant c.args.obj (c.place_of-behind.result - 1) (behind-is c.args.obj c.place_of-behind.result c.self.inside.places.items c.deref.result.now c.place_of-behind.ensures c.deref.ensures.value c.if-behind-eq0.false))

pub returns-then-behind-eq0 : goal.returns-then-behind-eq0
returns-then-behind-eq0 g c = sym (none-held c.self.inside.places.items c.self.inside.pairs.items c.args.obj (zero-is c.args.obj c.place_of-behind.result c.self.inside.places.items c.deref.result.now c.place_of-behind.ensures c.deref.ensures.value c.if-behind-eq0.true)) ∙ ap (held c.args.obj) c.self.view_is

pub returns : goal.returns
returns g c =
    ap (λ (x : ℕ × g.row.V.Denot). Some x.1) c.index.ensures
    ∙ sym (held-is c.self.inside.places.items c.self.inside.pairs.items c.self.invariant c.args.obj (c.place_of-behind.result - 1) (behind-is c.args.obj c.place_of-behind.result c.self.inside.places.items c.deref.result.now c.place_of-behind.ensures c.deref.ensures.value c.if-behind-eq0.false) c.index.result.now)
    ∙ ap (held c.args.obj) c.self.view_is
