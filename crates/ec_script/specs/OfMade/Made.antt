-- What the lines of a made script are.
use Rattle.std.specs.Prelude.{◌≡◌, ◌<◌, ◌≤◌, ◌+◌, ◌*◌, ◌%◌, ◌==◌, ◌||◌, ℕ, zero, suc, Bool, true, false, List, [], ◌∷◌, length}
use Rattle.ec_plain.specs.declared.call.Call.{Call}
use Rattle.ec_plain.specs.declared.call.Call.TheVariants as call
use Rattle.ec_script.specs.Grammar.{IsLine}
use Rattle.ec_script.specs.Lines.{lines_of}
use Rattle.ec_script.specs.declared.line.Line.TheVariants as line
use Rattle.ec_script.specs.OfGenerator.Generator.{script_of}
use Rattle.ec_base.specs.Bools.{one_if}

-- the call makes an object, where it is carried out
abbrev pub makes : Call → Bool
makes (call.Mkdir path) = true
makes (call.Create path) = true
makes _ = false

-- The line stands in the grammar, and is a call of one of four clerks, which makes an object or none.
pub record IsCalling (bytes : List ℕ) (making : Bool) : Type 0 where
  pub clerk : ℕ
  pub calls : Call
  pub is : IsLine bytes (line.Call clerk calls)
  pub one_of_four : clerk < 4
  pub so : makes calls ≡ making

-- Each of these lines is such a call, and so many of them make an object.
abbrev pub AreCalling : List (List ℕ) → ℕ → Type 0
AreCalling [] n = n ≡ 0
AreCalling (bytes ∷ rest) n = (making : Bool) × (others : ℕ) × IsCalling bytes making × AreCalling rest others × (n ≡ one_if making + others)

-- whether the line of this number makes an object
abbrev pub is_making : ℕ → Bool
is_making n = n % 8 == 1 || n % 8 == 2

-- how many of so many lines do
abbrev pub making : ℕ → ℕ
making zero = 0
making (suc n) = making n + one_if (is_making (suc n))

-- a script has at most so many lines
abbrev pub most_made_lines : ℕ
most_made_lines = 2000

-- A script of so many lines has so many, none of them long, and each is a call.
abbrev pub MadeLinesCall : Type 0
MadeLinesCall =
    (number count : ℕ) → count ≤ most_made_lines
    → (length (script_of number count) ≤ 50 * count) × (length (lines_of (script_of number count)) ≡ count) × AreCalling (lines_of (script_of number count)) (making count)
