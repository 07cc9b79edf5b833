-- Ids that updates make.
use Rattle.std.proofs.Common.{sym, subst, inl, inr, ◌⊎◌, ℕ, Bool, true, false, not, cond, T, List, [], ◌∷◌, ◌++◌}
use Rattle.std.specs.List.{filter}
use Rattle.ec_volume.specs.Update.{member, distinct, listed}
use Rattle.ec_history.specs.History.{Op, updates}
use Rattle.ec_durable.specs.Durable.{made}
use Rattle.ec_coherence.specs.Log.{made_by}
use Rattle.ec_coherence.proofs.ForServer.Lists.{or_else, member-more}
use Rattle.ec_base.proofs.Bools.{left as and_first, and-both as and_both, or-right as or_next, right as and_next, or_first}

pub not-less : (a b : Bool) → (T a → T b) → T (not b) → T (not a)
not-less true true f n = n
not-less true false f n = f tt
not-less false b f n = tt

pub in-front : (x : ℕ) (xs ys : List ℕ) → T (member x xs) → T (member x (xs ++ ys))
in-front x xs ys m = subst T (sym (member-more x xs ys)) (or_first (member x xs) (member x ys) m)

pub in-back : (x : ℕ) (xs ys : List ℕ) → T (member x ys) → T (member x (xs ++ ys))
in-back x xs ys m = subst T (sym (member-more x xs ys)) (or_next (member x xs) (member x ys) m)

pub in-either : (x : ℕ) (xs ys : List ℕ) → T (member x (xs ++ ys)) → T (member x xs) ⊎ T (member x ys)
in-either x xs ys m = or_else (member x xs) (member x ys) (subst T (member-more x xs ys) m)

pub distinct-back : (xs ys : List ℕ) → T (distinct (xs ++ ys)) → T (distinct ys)
distinct-back [] ys d = d
distinct-back (x ∷ xs) ys d = distinct-back xs ys (and_next (not (member x (xs ++ ys))) (distinct (xs ++ ys)) d)

-- the second list gives way to one with fewer members
pub distinct-fewer : (xs ys zs : List ℕ) → ((x : ℕ) → T (member x zs) → T (member x ys)) → T (distinct zs) → T (distinct (xs ++ ys)) → T (distinct (xs ++ zs))
distinct-fewer [] ys zs f e d = e
distinct-fewer (x ∷ xs) ys zs f e d =
    and_both (not (member x (xs ++ zs))) (distinct (xs ++ zs))
    (not-less (member x (xs ++ zs)) (member x (xs ++ ys)) (λ m. elim (in-either x xs zs m) [ inl p ↦ in-front x xs ys p | inr p ↦ in-back x xs ys (f x p) ]) (and_first (not (member x (xs ++ ys))) (distinct (xs ++ ys)) d))
    (distinct-fewer xs ys zs f e (and_next (not (member x (xs ++ ys))) (distinct (xs ++ ys)) d))

module _ (q : Op → Bool) where
  pub part-member : (x : ℕ) (os : List Op) → T (member x (made_by (updates (filter q os)))) → T (member x (made_by (updates os)))
  part-member x [] m = m
  part-member x (o ∷ os) m = go (q o) m (λ k. part-member x os k)
    where
      go : (b : Bool) → T (member x (made_by (updates (cond b (o ∷ filter q os) (filter q os))))) → (T (member x (made_by (updates (filter q os)))) → T (member x (made_by (updates os)))) → T (member x (listed (made o.update) ++ made_by (updates os)))
      go true h f = elim (in-either x (listed (made o.update)) (made_by (updates (filter q os))) h) [ inl p ↦ in-front x (listed (made o.update)) (made_by (updates os)) p | inr p ↦ in-back x (listed (made o.update)) (made_by (updates os)) (f p) ]
      go false h f = in-back x (listed (made o.update)) (made_by (updates os)) (f h)

  pub part-distinct : (os : List Op) → T (distinct (made_by (updates os))) → T (distinct (made_by (updates (filter q os))))
  part-distinct [] d = d
  part-distinct (o ∷ os) d = go (q o) (part-distinct os (distinct-back (listed (made o.update)) (made_by (updates os)) d))
    where
      go : (b : Bool) → T (distinct (made_by (updates (filter q os)))) → T (distinct (made_by (updates (cond b (o ∷ filter q os) (filter q os)))))
      go true e = distinct-fewer (listed (made o.update)) (made_by (updates os)) (made_by (updates (filter q os))) (λ x m. part-member x os m) e d
      go false e = e
