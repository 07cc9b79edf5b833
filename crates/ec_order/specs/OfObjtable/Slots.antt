-- Pairs by the places that an index tells.
use Rattle.std.specs.Prelude.{◌≡◌, ℕ, zero, suc, List, [], ◌∷◌, Option, None, Some, slice_index_or}

-- the place behind that of the object's pair, or 0
abbrev pub slot : ℕ → List ℕ → ℕ
slot o ps = slice_index_or ps o 0

abbrev pub value_in : {X : Type 0} → ℕ → List (ℕ × X) → Option X
value_in p [] = None
value_in zero (x ∷ xs) = Some x.1
value_in (suc p) (x ∷ xs) = value_in p xs

abbrev pub key_in : {X : Type 0} → ℕ → List (ℕ × X) → Option ℕ
key_in p [] = None
key_in zero (x ∷ xs) = Some x.0
key_in (suc p) (x ∷ xs) = key_in p xs

-- the value before the place, if it isn't 0
abbrev pub value_at : {X : Type 0} → ℕ → List (ℕ × X) → Option X
value_at zero xs = None
value_at (suc p) xs = value_in p xs

-- the object's value
abbrev pub held : {X : Type 0} → ℕ → List ℕ × List (ℕ × X) → Option X
held o t = value_at (slot o t.0) t.1

-- each place that is told has a pair of the object
abbrev pub IsIndex : {X : Type 0} → List ℕ → List (ℕ × X) → Type 0
IsIndex ps xs = (o p : ℕ) → slot o ps ≡ suc p → key_in p xs ≡ Some o
