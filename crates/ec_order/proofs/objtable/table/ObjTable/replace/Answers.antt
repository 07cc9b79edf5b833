use Rattle.std.proofs.Common.{◌∙◌, ◌-◌, ℕ, sym, ap, cond, Some}
use Rattle.std.specs.Prelude.{◌==◌}
use Rattle.ec_order.specs.OfObjtable.Slots.{held}
use Rattle.ec_order.proofs.OfObjtable.Held.{behind-is, zero-is, place-below, held-is, none-held, put-index, put-held}
use Rattle.ec_order.proofs.objtable.table.ObjTable.replace.Goals as goal

pub put_at-requires : goal.put_at-requires
put_at-requires g c = place-below c.self.inside.places.items c.self.inside.pairs.items c.self.invariant c.args.obj (c.place_of-behind.result - 1) (behind-is c.args.obj c.place_of-behind.result c.self.inside.places.items c.deref.result.now c.place_of-behind.ensures c.deref.ensures.value c.if-behind-eq0.false)

pub invariant_of-self : goal.invariant_of-self
invariant_of-self g c =
    let d : ℕ × g.row.V.Denot = (c.args.obj, c.args.value) in
    put-index c.self.inside.places.items c.self.inside.pairs.items c.self.invariant c.args.obj (c.place_of-behind.result - 1) (behind-is c.args.obj c.place_of-behind.result c.self.inside.places.items c.deref.result.now c.place_of-behind.ensures c.deref.ensures.value c.if-behind-eq0.false) d c.args.value c.put_at.new.pairs.items (c.put_at.ensures.rest d)

pub returns-clause-some : goal.returns-clause-some
returns-clause-some g c o =
    let d : ℕ × g.row.V.Denot = (c.args.obj, c.args.value) in
    put-held c.self.inside.places.items c.self.inside.pairs.items c.self.invariant c.args.obj (c.place_of-behind.result - 1) (behind-is c.args.obj c.place_of-behind.result c.self.inside.places.items c.deref.result.now c.place_of-behind.ensures c.deref.ensures.value c.if-behind-eq0.false) d c.args.value c.put_at.new.pairs.items (c.put_at.ensures.rest d) o
    ∙ ap (λ t. cond (o == c.args.obj) (Some c.args.value) (held o t)) c.self.view_is

pub returns-then-behind-eq0-clause-value : goal.returns-then-behind-eq0-clause-value
returns-then-behind-eq0-clause-value g c = sym (none-held c.self.inside.places.items c.self.inside.pairs.items c.args.obj (zero-is c.args.obj c.place_of-behind.result c.self.inside.places.items c.deref.result.now c.place_of-behind.ensures c.deref.ensures.value c.if-behind-eq0.true)) ∙ ap (held c.args.obj) c.self.view_is

pub returns-clause-value : goal.returns-clause-value
returns-clause-value g c =
    let d : ℕ × g.row.V.Denot = (c.args.obj, c.args.value) in
    ap Some (c.put_at.ensures.value d)
    ∙ sym (held-is c.self.inside.places.items c.self.inside.pairs.items c.self.invariant c.args.obj (c.place_of-behind.result - 1) (behind-is c.args.obj c.place_of-behind.result c.self.inside.places.items c.deref.result.now c.place_of-behind.ensures c.deref.ensures.value c.if-behind-eq0.false) d)
    ∙ ap (held c.args.obj) c.self.view_is
