-- The last of some words.
use Rattle.std.specs.Prelude.{ℕ, List, [], ◌∷◌, length}
use Rattle.ec_words.specs.Rows.{Word}

-- how many bytes it has
abbrev pub last_len : List Word → ℕ
last_len [] = 0
last_len (w ∷ []) = length w
last_len (w ∷ v ∷ ws) = last_len (v ∷ ws)
