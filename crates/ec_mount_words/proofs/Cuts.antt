-- What a list is cut into at the first element that passes a test.
use Rattle.std.proofs.Common.{◌≡◌, ℕ, suc, ◌+◌, ◌-◌, ◌<◌, List, [], ◌∷◌, length, take, drop, None, Some, Bool, true, false, cond, refl, sym, ap, ◌∙◌, arith, add-one}
use Rattle.std.specs.List.{position, position_from, slice_split, onto_first}
use Rattle.std.proofs.lemmas.List.{take_rest}
use Rattle.std.proofs.lemmas.Iterator.Adapters.{position_from-zero}

module _ {X : Type 0} (p : X → Bool) where
  cut_at : (xs : List X) (n k : ℕ) → position_from p n xs ≡ Some k → (at : ℕ) × (k ≡ n + at) × (at < length xs) × (slice_split p xs ≡ take at xs ∷ slice_split p (drop (suc at) xs))
  cut_at [] n k is = cc
  cut_at (x ∷ xs) n k is =
      elim (p x) as (λ b. p x ≡ b → cond b (Some n) (position_from p (n + 1) xs) ≡ Some k → (at : ℕ) × (k ≡ n + at) × (at < length (x ∷ xs)) × (slice_split p (x ∷ xs) ≡ take at (x ∷ xs) ∷ slice_split p (drop (suc at) (x ∷ xs)))) [
        | true ↦ λ e found. (0, grind arith, omega arith, rw e)
        | false ↦ λ e found. let later = cut_at xs (n + 1) k found in (suc later.0, omega (arith, later.1), omega (arith, later.2), rw e (ap (onto_first x) later.3))
      ] refl is

  cut_nowhere : (xs : List X) (n : ℕ) → position_from p n xs ≡ None → slice_split p xs ≡ xs ∷ []
  cut_nowhere [] n is = refl
  cut_nowhere (x ∷ xs) n is =
      elim (p x) as (λ b. p x ≡ b → cond b (Some n) (position_from p (n + 1) xs) ≡ None → slice_split p (x ∷ xs) ≡ (x ∷ xs) ∷ []) [
        | true ↦ λ e none. cc
        | false ↦ λ e none. rw e (ap (onto_first x) (cut_nowhere xs (n + 1) none))
      ] refl is

  pub cut_first : (xs : List X) (at : ℕ) → position p xs ≡ Some at → slice_split p xs ≡ take at xs ∷ slice_split p (take (length xs - (at + 1)) (drop (at + 1) xs))
  cut_first xs at is =
      let cut = cut_at xs 0 at (sym (position_from-zero p xs) ∙ is) in
      let here : at ≡ cut.0 = omega (arith, cut.1) in
      rw (take_rest, here, add-one) cut.3

  pub cut_none : (xs : List X) → position p xs ≡ None → slice_split p xs ≡ xs ∷ []
  cut_none xs is = cut_nowhere xs 0 (sym (position_from-zero p xs) ∙ is)
