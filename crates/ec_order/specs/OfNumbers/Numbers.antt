-- An index of numbers.
use Rattle.std.specs.Prelude.{◌≡◌, ℕ, Bool, List}
use Rattle.ec_volume.specs.Update.{member}

-- these numbers are known, and no others
abbrev pub IsIndex : (ℕ → Bool) → List ℕ → Type 0
IsIndex known ns = (n : ℕ) → known n ≡ member n ns
