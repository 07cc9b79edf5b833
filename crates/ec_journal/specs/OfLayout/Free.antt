-- The slots that aren't named.
use Rattle.std.specs.Prelude.{◌≡◌, ◌<◌, ◌==◌, ◌||◌, ℕ, zero, suc, Bool, false, if◌then◌else◌, List, [], ◌∷◌, ◌++◌}

abbrev pub is_named : ℕ → List ℕ → Bool
is_named k [] = false
is_named k (n ∷ named) = (k == n) || is_named k named

-- this slot, where it isn't named
abbrev pub if_free : ℕ → List ℕ → List ℕ
if_free k named = if is_named k named then [] else k ∷ []

-- those below a number, rising
abbrev pub free_below : ℕ → List ℕ → List ℕ
free_below zero named = []
free_below (suc k) named = free_below k named ++ if_free k named

abbrev pub IsFreeBelow : ℕ → List ℕ → ℕ → Type 0
IsFreeBelow count named slot = (slot < count) × (is_named slot named ≡ false)
