-- A script of lanes: its rows, and the calls of each lane.
use Rattle.std.specs.Prelude.{◌≡◌, ◌==◌, ◌+◌, ◌≤◌, ℕ, if◌then◌else◌, List, [], ◌∷◌, ◌++◌, length, map, Option}
use Rattle.std.specs.Io.KnownBytes.{Consumes, IsAtEnd}
use Rattle.ec_plain.specs.declared.call.Call.{Call}
use Rattle.ec_script.specs.Grammar.{IsLaneLine, IsOutside, SpellsLane}
use Rattle.ec_script.specs.Lines.{lines_of}
use Rattle.ec_script.specs.declared.line.LineFault.TheVariants as line
use Rattle.ec_mount.specs.declared.script.Row.{Row}

-- the greatest number of bytes of a script, and of lines
abbrev pub most_bytes : ℕ
most_bytes = 1048576

abbrev pub most_lines : ℕ
most_lines = 65536

-- each line, from this number on, is one of a lane, and these are its rows
abbrev pub AreRows : ℕ → List (List ℕ) → List Row → Type 0
AreRows n [] [] = Unit {0}
AreRows n (bytes ∷ rest) (row ∷ rows) = (row.line ≡ n) × IsLaneLine bytes (row.lane, row.call) × AreRows (n + 1) rest rows
AreRows n _ _ = ⊥

-- the rows of one lane, in order
abbrev pub rows_of : ℕ → List Row → List Row
rows_of lane [] = []
rows_of lane (row ∷ rows) = if row.lane == lane then row ∷ rows_of lane rows else rows_of lane rows

abbrev pub calls_of : ℕ → List Row → List Call
calls_of lane rows = map (λ row. row.call) (rows_of lane rows)

-- the calls of the lanes 1 to 8
abbrev pub lanes_of : List Row → List (List Call)
lanes_of rows = calls_of 1 rows ∷ calls_of 2 rows ∷ calls_of 3 rows ∷ calls_of 4 rows ∷ calls_of 5 rows ∷ calls_of 6 rows ∷ calls_of 7 rows ∷ calls_of 8 rows ∷ []

-- the source was read to its end and gave this script
pub record IsScript (left left_after : Option (List ℕ)) (script : List ℕ) : Type 0 where
  pub given : Consumes left left_after script
  pub at_end : IsAtEnd left_after
  pub few_bytes : length script ≤ most_bytes

-- a script within the limits, of these rows
pub record GivesRows (left left_after : Option (List ℕ)) (rows : List Row) : Type 0 where
  pub script : List ℕ
  pub is_script : IsScript left left_after script
  pub few_lines : length (lines_of script) ≤ most_lines
  pub read : AreRows 1 (lines_of script) rows

-- the line of this number is no line of a lane, from this column on, and those before it are
pub record IsBadAt (lines : List (List ℕ)) (n column : ℕ) : Type 0 where
  pub before : List (List ℕ)
  pub rows : List Row
  pub bytes : List ℕ
  pub rest : List (List ℕ)
  pub whole : before ++ bytes ∷ rest ≡ lines
  pub read : AreRows 1 before rows
  pub number : n ≡ length before + 1
  pub outside : IsOutside SpellsLane bytes (line.At column)
