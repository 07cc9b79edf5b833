-- The words of a line.
use Rattle.std.specs.Prelude.{◌==◌, ◌+◌, ℕ, if◌then◌else◌, nat_lt, List, [], ◌∷◌, length, take}
use Rattle.ec_words.specs.Pieces.{onto}

-- A line is split at each single space, so a word may be empty.
abbrev pub words_of : List ℕ → List (List ℕ)
words_of [] = [] ∷ []
words_of (byte ∷ bytes) = if byte == 32 then [] ∷ words_of bytes else onto byte (words_of bytes)

-- the length of words, each with a space behind it
abbrev pub spaced_len : List (List ℕ) → ℕ
spaced_len [] = 0
spaced_len (word ∷ words) = length word + 1 + spaced_len words

-- The place, from 1, of the first byte of the word behind the first k words, or just behind the line where there is none.
abbrev pub column_of : List ℕ → ℕ → ℕ
column_of line k =
    if nat_lt k (length (words_of line)) then spaced_len (take k (words_of line)) + 1
    else length line + 1
