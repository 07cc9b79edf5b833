-- The column of a line whose words are refused.
use Rattle.std.proofs.Common.{◌≡◌, ◌+◌, ◌-◌, ◌^◌, min, ℕ, List, length, ap, arith}
use Rattle.ec_words.specs.declared.cursor.Misfit.TheVariants as misfit
use Rattle.ec_words.specs.Words.{words_of, column_of}
use Rattle.ec_words.specs.Rows.{Word, FirstUnfit, shown_column}
use Rattle.ec_words.specs.RowsLeft.{IsMisfit, column_left}
use Rattle.ec_words.proofs.Left.{column_by_left}

pub placed : {X : Type 0} (G : List Word → X → Type 0) (bytes : List ℕ) (n : ℕ) → IsMisfit G (words_of bytes) (misfit.Unfit n) → (k : ℕ) × (FirstUnfit G (words_of bytes) k × (column_left bytes n ≡ shown_column bytes k))
placed G bytes n r =
    let e : length bytes + 1 - n ≡ column_of bytes r.0 = omega (arith, column_by_left bytes r.0, r.1.1) in
    (r.0, (r.1.0, ap (λ c. min c (2 ^ 32 - 1)) e))
