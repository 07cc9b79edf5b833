-- Lemmas on what passes a test.
use Rattle.std.proofs.Common.{arith, ◌≤◌, suc, Bool, true, false, cond, length, List, [], ◌∷◌}
use Rattle.std.specs.Prelude.{filter}

pub fewer : {A : Type 0} (p : A → Bool) (xs : List A) → length (filter p xs) ≤ length xs
fewer p [] = omega arith
fewer p (x ∷ xs) = go (p x) (fewer p xs)
  where
    go : (b : Bool) → length (filter p xs) ≤ length xs → length (cond b (x ∷ filter p xs) (filter p xs)) ≤ suc (length xs)
    go true l = omega (arith, l)
    go false l = omega (arith, l)
