-- A script's lines, as the machine has them.
use Rattle.std.specs.Prelude.{◌≡◌, ◌-◌, ℕ, List, [], ◌∷◌, length}
use Rattle.ec_words.specs.Words.{words_of}
use Rattle.ec_words.specs.Rows.{shown_column}
use Rattle.ec_script.specs.Grammar.{IsLine, IsFault}
use Rattle.ec_script.specs.declared.line.Line.{Line}
use Rattle.ec_script.specs.declared.line.Line.TheVariants as line
use Rattle.ec_script.specs.declared.line.LineFault.TheVariants as fault
use Rattle.ec_protocol.specs.declared.script.Line.{Line as MachineLine}
use Rattle.ec_protocol.specs.declared.script.Line.TheVariants as machine
use Rattle.ec_protocol.specs.Drill.{Read, reads, unfit}

-- the machine's line
abbrev pub machine_line : Line → MachineLine
machine_line line.Comment = machine.Comment
machine_line (line.Call c cl) = machine.Call c cl
machine_line (line.Push c n) = machine.Push c n
machine_line (line.Cut c) = machine.Cut c
machine_line (line.Uncut c) = machine.Uncut c
machine_line (line.Drop c k n) = machine.Drop c k n
machine_line (line.Repeat c k n) = machine.Repeat c k n
machine_line (line.Deliver c k n) = machine.Deliver c k n
machine_line (line.Resend c) = machine.Resend c
machine_line (line.Crash c) = machine.Crash c
machine_line (line.End c) = machine.End c
machine_line line.Stop = machine.Stop
machine_line (line.Arm n ch) = machine.Arm n ch
machine_line line.Restart = machine.Restart

-- the column of a line's last word
abbrev pub last_column : List ℕ → ℕ
last_column bytes = shown_column bytes (length (words_of bytes) - 1)

-- A line in the grammar is read with the column of its last word, and any other one with its column.
abbrev pub IsRead : List ℕ → Read → Type 0
IsRead bytes (reads l column) = (line : Line) × IsLine bytes line × (l ≡ machine_line line) × (column ≡ last_column bytes)
IsRead bytes (unfit column) = IsFault bytes (fault.At column)

abbrev pub AreRead : List (List ℕ) → List Read → Type 0
AreRead [] [] = Unit {0}
AreRead (bytes ∷ rest) (r ∷ rs) = IsRead bytes r × AreRead rest rs
AreRead _ _ = ⊥
