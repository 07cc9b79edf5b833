-- Rows that lack a mark.
use Rattle.std.specs.Prelude.{◌≡◌, List, ◌∷◌, ⊤}
use Rattle.ec_words.specs.declared.cursor.Misfit.{Misfit}
use Rattle.ec_words.specs.declared.cursor.Misfit.TheVariants as misfit
use Rattle.ec_words.specs.Rows.{Word}
use Rattle.ec_words.specs.RowsLeft.{joined_len}

-- the first of these words isn't this mark, or is missing; so many bytes are left from it on
abbrev pub LacksMark : Word → List Word → Misfit → Type 0
LacksMark mark ws (misfit.Unfit bytes) = (bytes ≡ joined_len ws) × ((rest : List Word) → ws ≡ mark ∷ rest → ⊥)
LacksMark mark ws misfit.NoMemory = ⊤
