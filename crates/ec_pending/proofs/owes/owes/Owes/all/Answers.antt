use Rattle.std.proofs.Common.{◌∙◌, ℕ, sym, ap, arith, true, false, append-nil}
use Rattle.ec_pending.proofs.OfOwes.Found.{all-next}
use Rattle.ec_pending.proofs.owes.owes.Owes.all.Goals.{then-is_staying+in_ok-push, else-is_staying}
use Rattle.ec_pending.proofs.owes.owes.Owes.all.Goals as goal

pub each-preserved : goal.each-preserved
each-preserved c =
    let q : ℕ × ℕ = c.index-pair.result.now in
    let some = c.each-test.true in
    let next = all-next c.self.inside.spans c.self.inside.pairs.items c.each.at q c.each.pairs.items c.if-is_staying.pairs.items (omega (arith, some)) c.index-pair.ensures c.each.invariant in
    elim c.if-is_staying.branch [
      | then-is_staying+in_ok-push w ↦ next true (sym c.is_staying.ensures ∙ w.if-is_staying.true) (ap (λ v. v.items) w.pairs-is ∙ w.in_ok-push.ensures.items)
      | else-is_staying w ↦ next false (sym c.is_staying.ensures ∙ w.if-is_staying.false) (ap (λ v. v.items) w.pairs-is ∙ sym (append-nil c.each.pairs.items))
    ]
