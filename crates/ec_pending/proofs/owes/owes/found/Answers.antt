use Rattle.std.proofs.Common.{◌∙◌, ◌++◌, ◌∷◌, [], ℕ, sym, ap, refl, arith, cond, append-nil}
use Rattle.std.specs.Prelude.{nat_le}
use Rattle.ec_volume.specs.Update.{member}
use Rattle.ec_pending.specs.OfOwes.Owes.{span}
use Rattle.ec_pending.proofs.OfOwes.Found.{found-begins, found-next, found-ends}
use Rattle.ec_pending.proofs.owes.owes.found.Goals.{then-is_found+in_ok-push, else-is_found}
use Rattle.ec_pending.proofs.owes.owes.found.Goals as goal

pub each-init : goal.each-init
each-init c = found-begins c.args.spans.now c.args.objs.now c.reach-reached.result c.reach-reached.ensures c.args.pairs.now c.requires c.new-found.result.items c.new-found.ensures.items

pub each-preserved : goal.each-preserved
each-preserved c =
    let q : ℕ × ℕ = c.index-pairs-at.result in
    let some = c.each-test.true in
    let below = c.lesser-end.ensures.below in
    let a = member q.1 c.args.objs.now in
    let b = nat_le (span q.1 c.args.spans.now).0 c.each.at in
    let next = found-next c.args.spans.now c.args.objs.now c.reach-reached.result c.reach-reached.ensures c.args.pairs.now c.requires c.each.at q c.each.found.items c.if-is_found.found.items (omega (arith, some, below)) c.index-pairs-at.is c.each.invariant a b refl refl in
    elim c.if-is_found.branch [
      | then-is_found+in_ok-push w ↦ next (ap (λ v. v.items) w.found-is ∙ w.in_ok-push.ensures.items ∙ ap (λ x. c.each.found.items ++ cond x (q ∷ []) []) (sym (sym c.is_found.ensures ∙ w.if-is_found.true)))
      | else-is_found w ↦ next (ap (λ v. v.items) w.found-is ∙ sym (append-nil c.each.found.items) ∙ ap (λ x. c.each.found.items ++ cond x (q ∷ []) []) (sym (sym c.is_found.ensures ∙ w.if-is_found.false)))
    ]

pub returns : goal.returns
returns c =
    let none = c.each-test.false in
    found-ends c.args.spans.now c.args.objs.now c.reach-reached.result c.reach-reached.ensures c.args.pairs.now c.requires c.each.at c.lesser-end.result c.each.found.items c.each.invariant c.lesser-end.ensures.value (omega (arith, none))
