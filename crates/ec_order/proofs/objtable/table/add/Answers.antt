use Rattle.std.proofs.Common.{◌∙◌, ◌+◌, ◌≤◌, refl, sym, ap, subst, set, length}
use Rattle.ec_order.specs.OfObjtable.Slots.{slot, value_at, IsIndex}
use Rattle.ec_order.proofs.OfObjtable.Held.{index-same, held-same, added-index, added-held, on-err}
use Rattle.ec_order.proofs.objtable.table.add.Goals as goal

pub returns-in_err-lengthen-clause-index : goal.returns-in_err-lengthen-clause-index
returns-in_err-lengthen-clause-index g c = index-same c.args.places.now.items c.lengthen.new.places.items c.args.pairs.now.items c.args.pairs.now.items c.in_err-lengthen.ensures.same refl c.requires.index

pub returns-in_err-push-clause-index : goal.returns-in_err-push-clause-index
returns-in_err-push-clause-index g c = index-same c.args.places.now.items c.lengthen.new.places.items c.args.pairs.now.items c.push.new.self.items c.in_ok-lengthen.ensures.same c.in_err-push.ensures.items c.requires.index

pub returns-in_err-push-clause-err : goal.returns-in_err-push-clause-err
returns-in_err-push-clause-err g c = on-err c.from_residual-in_err-push.result (held-same c.args.places.now.items c.lengthen.new.places.items c.args.pairs.now.items c.push.new.self.items c.in_ok-lengthen.ensures.same c.in_err-push.ensures.items)

pub returns-in_err-lengthen-clause-err : goal.returns-in_err-lengthen-clause-err
returns-in_err-lengthen-clause-err g c = on-err c.from_residual.result (held-same c.args.places.now.items c.lengthen.new.places.items c.args.pairs.now.items c.args.pairs.now.items c.in_err-lengthen.ensures.same refl)

pub returns-clause-index : goal.returns-clause-index
returns-clause-index g c =
    subst (λ k. IsIndex (set c.lengthen.new.places.items k c.len.result) c.push.new.self.items) (sym c.get-at.ensures.value)
    (added-index c.args.places.now.items c.lengthen.new.places.items c.args.pairs.now.items c.push.new.self.items c.args.obj c.len.result c.args.value c.in_ok-lengthen.ensures.same c.requires.index
    (subst (λ k. k + 1 ≤ length c.lengthen.new.places.items) c.get-at.ensures.value c.in_ok-lengthen.ensures.long) c.in_ok-push.ensures.items (c.len.ensures ∙ c.push.new.self.ok.0))

pub returns-clause-ok : goal.returns-clause-ok
returns-clause-ok g c o =
    ap (λ k. value_at (slot o (set c.lengthen.new.places.items k c.len.result)) c.push.new.self.items) c.get-at.ensures.value
    ∙ added-held c.args.places.now.items c.lengthen.new.places.items c.args.pairs.now.items c.push.new.self.items c.args.obj c.len.result c.args.value c.in_ok-lengthen.ensures.same c.requires.index
    (subst (λ k. k + 1 ≤ length c.lengthen.new.places.items) c.get-at.ensures.value c.in_ok-lengthen.ensures.long) c.in_ok-push.ensures.items (c.len.ensures ∙ c.push.new.self.ok.0) o
