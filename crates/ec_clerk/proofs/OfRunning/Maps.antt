-- A value that is taken out of a map and put back.
use Rattle.std.proofs.Common.{◌≡◌, ℕ, List, [], ◌∷◌, Some, refl, ap, ◌∙◌}
use Rattle.std.specs.Prelude.{T}
use Rattle.std.specs.declared.cmp.Ordering.{Ordering}
use Rattle.std.specs.declared.cmp.Ordering.TheVariants.{Less, Equal, Greater}
use Rattle.std.specs.Cmp.{nat_cmp_total}
use Rattle.std.specs.Ordering.{nat_cmp}
use Rattle.std.specs.FinMap.Entries.{find, put, is_sorted, below_all}
use Rattle.std.proofs.lemmas.Map.Lookups.{exact_unsigned}
use Rattle.ec_base.specs.Sorted.{without}
use Rattle.ec_base.specs.SortedLaws.{first, second, kept_below, below_first, below_tied, put-found}

put_below : {X : Type 0} (k : ℕ) (v : X) (es : List (ℕ × X)) → T (below_all nat_cmp k es) → put nat_cmp k v es ≡ (k, v) ∷ es
put_below k v [] h = refl
put_below k v (e ∷ es) h = let l : nat_cmp k e.0 ≡ Less = less _ (first _ _ h) in rw l refl
  where
    less : (r : Ordering) → T (Rattle.std.specs.Ordering.is_lt r) → r ≡ Less
    less Less p = refl
    less Equal p = absurd p
    less Greater p = absurd p

pub put-without : {X : Type 0} (k : ℕ) (v : X) (es : List (ℕ × X)) → T (is_sorted nat_cmp es) → put nat_cmp k v (without nat_cmp k es) ≡ put nat_cmp k v es
put-without k v [] h = refl
put-without k v (e ∷ es) h =
    elim (nat_cmp k e.0) as (λ r. nat_cmp k e.0 ≡ r → put nat_cmp k v (without nat_cmp k (e ∷ es)) ≡ put nat_cmp k v (e ∷ es)) [
      | Less ↦ λ p. ap (put nat_cmp k v) (kept_below nat_cmp k (e ∷ es) (below_first nat_cmp nat_cmp_total k e es p h))
      | Equal ↦ λ p.
          let below = below_tied nat_cmp nat_cmp_total k e.0 es p (first _ _ h) in
          let same = exact_unsigned k e.0 p in
          rw p (ap (put nat_cmp k v) (kept_below nat_cmp k es below) ∙ put_below k v es below ∙ ap (λ x. (x, v) ∷ es) same)
      | Greater ↦ λ p. rw (p, p) (ap (λ xs. e ∷ xs) (put-without k v es (second _ _ h)))
    ] refl

-- the value that was taken out goes back
pub put-back : {X : Type 0} (k : ℕ) (v : X) (es : List (ℕ × X)) → T (is_sorted nat_cmp es) → find nat_cmp k es ≡ Some v → put nat_cmp k v (without nat_cmp k es) ≡ es
put-back k v es h is = put-without k v es h ∙ put-found nat_cmp nat_cmp_total k v es h is
