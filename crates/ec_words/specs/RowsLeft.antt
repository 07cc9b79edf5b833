-- The words and bytes that are left of a line.
use Rattle.std.specs.Prelude.{◌≡◌, ◌+◌, ◌-◌, ◌^◌, min, ℕ, Option, None, Some, List, [], ◌∷◌, length, drop, ⊤}
use Rattle.std.proofs.Common.{Bor}
use Rattle.ec_words.specs.Words.{words_of}
use Rattle.ec_words.specs.declared.cursor.Words.{Words}
use Rattle.ec_words.specs.declared.cursor.Misfit.{Misfit}
use Rattle.ec_words.specs.declared.cursor.Misfit.TheVariants as misfit
use Rattle.ec_words.specs.Rows.{Word, FirstUnfit}

-- What is left of a line.

abbrev pub left_in : Option (Bor (List ℕ)) → List Word
left_in None = []
left_in (Some bytes) = words_of bytes.now

abbrev pub left : Words → List Word
left words = left_in words.rest

-- the length of words with a space between them
abbrev pub joined_len : List Word → ℕ
joined_len [] = 0
joined_len (w ∷ []) = length w
joined_len (w ∷ v ∷ ws) = length w + 1 + joined_len (v ∷ ws)

-- the first of these words stands for v, and this is the rest
abbrev pub Takes : {V : Type 0} → (Word → V → Type 0) → List Word → V → Words → Type 0
Takes P ws v rest = (w : Word) × ((ws ≡ w ∷ left rest) × P w v)

-- the first of these words is missing or stands for nothing; so many bytes are left from it on
abbrev pub Lacks : {V : Type 0} → (Word → V → Type 0) → List Word → Misfit → Type 0
Lacks {V} P ws (misfit.Unfit bytes) = (bytes ≡ joined_len ws) × ((w : Word) (rest : List Word) (v : V) → ws ≡ w ∷ rest → P w v → ⊥)
Lacks P ws misfit.NoMemory = ⊤

-- of these words so many bytes are left from the first one on that doesn't fit
abbrev pub IsMisfit : {X : Type 0} → (List Word → X → Type 0) → List Word → Misfit → Type 0
IsMisfit G ws (misfit.Unfit bytes) = (j : ℕ) × (FirstUnfit G ws j × (bytes ≡ joined_len (drop j ws)))
IsMisfit G ws misfit.NoMemory = ⊤

-- some word that stands for something
abbrev pub Example : {V : Type 0} → (Word → V → Type 0) → Type 0
Example {V} P = (w : Word) × ((v : V) × P w v)

-- the place, from 1, of the word from which on so many bytes of the line are left; places from 2^32 on are shown as 2^32 - 1
abbrev pub column_left : List ℕ → ℕ → ℕ
column_left line n = min (length line + 1 - n) (2 ^ 32 - 1)
