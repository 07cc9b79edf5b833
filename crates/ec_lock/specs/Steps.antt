-- Steps by the number of their pass, and numbers in a list.
use Rattle.std.specs.Prelude.{◌≡◌, ◌==◌, ℕ, ◌⊎◌, Bool, false, cond, List, [], ◌∷◌, Option, Some, None}

abbrev pub Member : ℕ → List ℕ → Type 0
Member n [] = ⊥
Member n (x ∷ xs) = (x ≡ n) ⊎ Member n xs

abbrev pub is_number : ℕ → Option ℕ → Bool
is_number n None = false
is_number n (Some m) = m == n

-- no number stands there twice
abbrev pub Distinct : List ℕ → Type 0
Distinct [] = Unit {0}
Distinct (x ∷ xs) = (Member x xs → ⊥) × Distinct xs

-- the steps with this number, in order
abbrev pub of : {S : Type 0} → (S → Option ℕ) → ℕ → List S → List S
of number n [] = []
of number n (x ∷ xs) = cond (is_number n (number x)) (x ∷ of number n xs) (of number n xs)
