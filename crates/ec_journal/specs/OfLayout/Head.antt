-- The first 16 bytes of a disk.
use Rattle.std.specs.Prelude.{ℕ, List, [], ◌∷◌}

-- `ECHOFS1` and a line feed
abbrev pub first_word : List ℕ
first_word = 69 ∷ 67 ∷ 72 ∷ 79 ∷ 70 ∷ 83 ∷ 49 ∷ 10 ∷ []

-- the bytes behind the select byte: the form of the layout
abbrev pub form : List ℕ
form = 1 ∷ 0 ∷ 0 ∷ []
