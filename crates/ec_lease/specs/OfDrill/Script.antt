-- The lines of a script with leases, as the machine has them.
use Rattle.std.specs.Prelude.{◌≡◌, ◌-◌, ℕ, List, [], ◌∷◌, length}
use Rattle.ec_words.specs.Words.{words_of}
use Rattle.ec_words.specs.Rows.{shown_column}
use Rattle.ec_script.specs.declared.line.Line.{Line}
use Rattle.ec_script.specs.declared.line.Line.TheVariants as line
use Rattle.ec_script.specs.declared.line.LineFault.TheVariants as fault
use Rattle.ec_protocol.specs.declared.script.Line.{Line as MachineLine}
use Rattle.ec_protocol.specs.declared.script.Line.TheVariants as machine
use Rattle.ec_lease_machine.specs.OfWords.Grammar.{IsLeaseLine, IsLeaseFault}
use Rattle.ec_lease_machine.specs.declared.words.line.LeaseLine.{LeaseLine}
use Rattle.ec_lease_machine.specs.declared.words.line.LeaseLine.TheVariants as leased
use Rattle.ec_lease_machine.specs.declared.script.LeaseLine.{LeaseLine as MachineLease}
use Rattle.ec_lease_machine.specs.declared.script.LeaseLine.TheVariants as lease
use Rattle.ec_lease_machine.specs.Drill.{LeaseRead, reads, unfit}

-- the limits of any drill: the greatest number of bytes of a script, and of lines; and the number of objects
abbrev pub most_bytes : ℕ
most_bytes = 1048576

abbrev pub most_lines : ℕ
most_lines = 65536

abbrev pub lease_objects : ℕ
lease_objects = 1024

-- the machine's line
abbrev pub machine_line : Line → MachineLine
machine_line line.Comment = machine.Comment
machine_line (line.Call c cl) = machine.Call c cl
machine_line (line.Push c n) = machine.Push c n
machine_line (line.Cut c) = machine.Cut c
machine_line (line.Uncut c) = machine.Uncut c
machine_line (line.Drop c k n) = machine.Drop c k n
machine_line (line.Repeat c k n) = machine.Repeat c k n
machine_line (line.Deliver c k n) = machine.Deliver c k n
machine_line (line.Resend c) = machine.Resend c
machine_line (line.Crash c) = machine.Crash c
machine_line (line.End c) = machine.End c
machine_line line.Stop = machine.Stop
machine_line (line.Arm n ch) = machine.Arm n ch
machine_line line.Restart = machine.Restart

abbrev pub machine_lease : LeaseLine → MachineLease
machine_lease (leased.Drill l) = lease.Drill (machine_line l)
machine_lease (leased.Tick n) = lease.Tick n
machine_lease (leased.Skew c s) = lease.Skew c s
machine_lease (leased.Grant c) = lease.Grant c
machine_lease (leased.Hand c n) = lease.Hand c n

-- Where clocks differ by at most so much: a line in the grammar is read with the column of its last word, and any other one with its column.
abbrev pub IsRead : ℕ → List ℕ → LeaseRead → Type 0
IsRead most bytes (reads l column) = (line : LeaseLine) × IsLeaseLine most bytes line × (l ≡ machine_lease line) × (column ≡ shown_column bytes (length (words_of bytes) - 1))
IsRead most bytes (unfit column) = IsLeaseFault most bytes (fault.At column)

abbrev pub AreRead : ℕ → List (List ℕ) → List LeaseRead → Type 0
AreRead most [] [] = Unit {0}
AreRead most (bytes ∷ rest) (r ∷ rs) = IsRead most bytes r × AreRead most rest rs
AreRead most _ _ = ⊥
