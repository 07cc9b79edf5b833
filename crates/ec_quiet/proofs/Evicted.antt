-- The tokens that go stand first in the order of use.
use Rattle.std.proofs.Common.{◌≡◌, refl, sym, ap, ◌∙◌, subst, arith, ◌≤◌, ◌+◌, ◌-◌, ℕ, zero, suc, Bool, true, false, not, cond, List, [], ◌∷◌, ◌++◌, length}
use Rattle.std.specs.Prelude.{filter, take}
use Rattle.ec_base.specs.Tables.{Table}
use Rattle.ec_history.specs.History.{Each}
use Rattle.ec_volume.specs.Update.{member}
use Rattle.ec_cache.specs.Cache.{evicted}
use Rattle.ec_cache.specs.Held.{unpinned}
use Rattle.ec_cache.specs.declared.state.CacheState.{CacheState}
use Rattle.ec_cache.specs.declared.state.Held.{Held}
use Rattle.ec_quiet.specs.Evictions.{IsOld}
use Rattle.ec_quiet.proofs.Beside.{filter-both}

module _ {A : Type 0} where
  take-front : (n : ℕ) (xs ys : List A) → n ≤ length xs → take n (xs ++ ys) ≡ take n xs
  take-front zero xs ys l = refl
  take-front (suc n) [] ys l = absurd (omega (arith, l))
  take-front (suc n) (x ∷ xs) ys l = ap (λ r. x ∷ r) (take-front n xs ys (omega (arith, l)))

  each-take : (P : A → Type 0) (n : ℕ) (xs : List A) → Each P xs → Each P (take n xs)
  each-take P zero xs e = tt
  each-take P (suc n) [] e = tt
  each-take P (suc n) (x ∷ xs) e = (e.0, each-take P n xs e.1)

  each-filter : (P : A → Type 0) (p : A → Bool) (xs : List A) → Each P xs → Each P (filter p xs)
  each-filter P p [] e = tt
  each-filter P p (x ∷ xs) e = go (p x) (each-filter P p xs e.1)
    where
      go : (b : Bool) → Each P (filter p xs) → Each P (cond b (x ∷ filter p xs) (filter p xs))
      go true r = (e.0, r)
      go false r = r

module _ (pinned : List ℕ) (k : CacheState) (olds news : Table Held) (whole : k.held ≡ olds ++ news) (enough : length k.held ≤ k.capacity + length (unpinned pinned olds)) where
  pub old-ones : evicted pinned k ≡ take (length k.held - k.capacity) (unpinned pinned olds)
  old-ones = ap (λ es. take (length k.held - k.capacity) (filter (λ e. not (member e.0 pinned)) es)) whole
      ∙ ap (take (length k.held - k.capacity)) (filter-both (λ e. not (member e.0 pinned)) olds news)
      ∙ take-front (length k.held - k.capacity) (unpinned pinned olds) (unpinned pinned news) (omega (arith, enough))

  pub all-old : (n : ℕ) → Each (IsOld n) olds → Each (IsOld n) (evicted pinned k)
  all-old n e = subst (Each (IsOld n)) (sym old-ones) (each-take (IsOld n) (length k.held - k.capacity) (unpinned pinned olds) (each-filter (IsOld n) (λ e. not (member e.0 pinned)) olds e))
