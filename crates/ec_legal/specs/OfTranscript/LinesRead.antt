-- What is read of the lines of a transcript, and the fault of the first one outside the grammar.
use Rattle.std.specs.Prelude.{◌≡◌, ◌≤◌, ◌+◌, ℕ, T, List, ◌++◌, length, ⊤}
use Rattle.std.specs.List.{list_all}
use Rattle.ec_legal.specs.Bounded.{is_bounded_line}
use Rattle.ec_history.specs.declared.shown.Shown.{Shown}
use Rattle.ec_script.specs.Lines.{lines_of}
use Rattle.ec_legal.specs.declared.transcript.lines.ReadFault.{ReadFault}
use Rattle.ec_legal.specs.declared.transcript.lines.ReadFault.TheVariants as fault
use Rattle.ec_legal.specs.OfTranscript.Lines.{AreShown, IsBadLine}

-- All lines are read so, each call within its bounds.
pub record TranscriptIsRead (bytes : List ℕ) (ss : List Shown) : Type 0 where
  pub lines : AreShown (lines_of bytes) ss
  pub bounded : T (list_all is_bounded_line ss)
  pub few : length ss ≤ length bytes

abbrev pub HasBadLine : List ℕ → ReadFault → Type 0
HasBadLine bytes (fault.BadLine n column) = IsBadLine bytes n column
HasBadLine bytes fault.NoMemory = ⊤

-- Lines that are read piece by piece.

-- These lines are read so, and those of the bytes that are left come behind them.
pub record IsReadTo (bytes rest : List ℕ) (ss : List Shown) : Type 0 where
  pub heads : List (List ℕ)
  pub parts : heads ++ lines_of rest ≡ lines_of bytes
  pub lines : AreShown heads ss
  pub bounded : T (list_all is_bounded_line ss)
  pub few : length ss + length rest ≤ length bytes

-- the number of the bad line
abbrev pub line_of : ReadFault → ℕ
line_of (fault.BadLine n column) = n
line_of fault.NoMemory = 0

-- the same fault of bytes with so many more lines above
abbrev pub shifted : ℕ → ReadFault → ReadFault
shifted m (fault.BadLine n column) = fault.BadLine (m + n) column
shifted m fault.NoMemory = fault.NoMemory
