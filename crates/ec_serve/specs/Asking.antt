-- What a net was asked for by a server.
use Rattle.std.specs.Prelude.{◌≡◌, ◌⊎◌, ℕ, List, [], ◌∷◌, ◌++◌}

-- This address once, or nothing: it was asked for these before, and for these now.
abbrev pub AsksOnce : List ℕ → List (List ℕ) → List (List ℕ) → Type 0
AsksOnce addr before now = (now ≡ before ++ addr ∷ []) ⊎ (now ≡ before)
