-- Pieces of bytes that end at a certain byte.
use Rattle.std.specs.Prelude.{ℕ, List, [], ◌∷◌}

-- the byte in front of the first piece
abbrev pub onto : ℕ → List (List ℕ) → List (List ℕ)
onto byte [] = (byte ∷ []) ∷ []
onto byte (piece ∷ pieces) = (byte ∷ piece) ∷ pieces
