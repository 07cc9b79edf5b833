-- A pick by the numbers of its closure is the pick.
use Rattle.std.proofs.Common.{◌≡◌, refl, ap, ℕ, suc, zero, Bool, true, false, cond, not, List, [], ◌∷◌, take, Option, None, Some}
use Rattle.std.specs.Prelude.{◌==◌, ◌+◌}
use Rattle.ec_base.specs.Tables.{Table, keys, first as first_of}
use Rattle.ec_order.specs.Order.{Issued}
use Rattle.ec_sessions.specs.Limits.{max_batch_ops, window_size}
use Rattle.ec_log.specs.Log.{has_one_of, in_window, least, pick_from}
use Rattle.ec_log.specs.Chosen as choice
use Rattle.ec_log.specs.declared.state.Pick.{Pick}
use Rattle.ec_log.specs.declared.state.Pick.TheVariants.{Batch, Window, Behind}
use Rattle.ec_log.specs.declared.state.LogState.{LogState}

keys_front : (k : ℕ) (xs : Issued) → take k (keys xs) ≡ keys (take k xs)
keys_front zero xs = refl
keys_front (suc k) [] = refl
keys_front (suc k) (x ∷ xs) = ap (λ l. x.0 ∷ l) (keys_front k xs)

pub choice_pick : (l : LogState) (xs : Issued) → choice.choice (keys xs) l.next_batch l.batches ≡ pick_from xs l
choice_pick l [] = refl
choice_pick l (x ∷ xs) = go (first_of (has_one_of (keys (x ∷ xs))) l.batches)
  where
    front : Batch l.next_batch (take max_batch_ops (keys (x ∷ xs))) ≡ Batch l.next_batch (keys (take max_batch_ops (x ∷ xs)))
    front = ap (Batch l.next_batch) (keys_front max_batch_ops (x ∷ xs))

    unless_full : (bs : Table (List ℕ)) → choice.new_batch (keys (x ∷ xs)) l.next_batch (choice.full_from l.next_batch bs) ≡ elim (in_window l bs) as (λ z. Pick) [ true ↦ Batch l.next_batch (keys (take max_batch_ops (x ∷ xs))) | false ↦ Window (least bs) ]
    unless_full [] = front
    unless_full (b ∷ bs) = by (l.next_batch == b.0 + window_size)
      where
        by : (t : Bool) → choice.new_batch (keys (x ∷ xs)) l.next_batch (cond t (Some b.0) None) ≡ elim (not t) as (λ z. Pick) [ true ↦ Batch l.next_batch (keys (take max_batch_ops (x ∷ xs))) | false ↦ Window b.0 ]
        by true = refl
        by false = front

    go : (o : Option (ℕ × List ℕ)) → choice.unless_behind (keys (x ∷ xs)) l.next_batch l.batches (choice.batch_number o)
        ≡ elim o as (λ z. Pick) [ Some b ↦ Behind b.0 | None ↦ elim (in_window l l.batches) as (λ z. Pick) [ true ↦ Batch l.next_batch (keys (take max_batch_ops (x ∷ xs))) | false ↦ Window (least l.batches) ] ]
    go (Some b) = refl
    go None = unless_full l.batches
