-- Small functions on lists.
use Rattle.std.specs.Prelude.{◌≡◌, List, Option, Some, None, [], ◌∷◌}

abbrev pub Tells : {A : Type 0} → Option (List A) → List A → Type 0
Tells None xs = Unit {0}
Tells (Some ys) xs = ys ≡ xs

abbrev pub first_of : {A : Type 0} → List A → Option A
first_of [] = None
first_of (x ∷ xs) = Some x
