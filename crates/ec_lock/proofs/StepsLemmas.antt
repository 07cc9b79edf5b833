-- Lemmas on the definitions of `Steps` that several proofs cite.
use Rattle.std.proofs.Common.{◌≡◌, ℕ, Bool, true, false, cond, List, [], ◌∷◌, ◌++◌, Option, refl, ap}
use Rattle.ec_lock.specs.Steps.{is_number, of}

pub of-append : {S : Type 0} (number : S → Option ℕ) (n : ℕ) (xs ys : List S) → of number n (xs ++ ys) ≡ of number n xs ++ of number n ys
of-append number n [] ys = refl
of-append number n (x ∷ xs) ys = onto (is_number n (number x)) x (of number n xs) (of number n ys) (of number n (xs ++ ys)) (of-append number n xs ys) where
  onto : {S : Type 0} (b : Bool) (x : S) (xs ys zs : List S) → zs ≡ xs ++ ys → cond b (x ∷ zs) zs ≡ cond b (x ∷ xs) xs ++ ys
  onto true x xs ys zs e = ap (λ l. x ∷ l) e
  onto false x xs ys zs e = e
