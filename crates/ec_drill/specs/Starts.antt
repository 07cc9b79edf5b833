-- No public clause cites this module: it says what the private steps of a drill do.
use Rattle.std.specs.Prelude.{◌≡◌, ◌⊎◌, ◌+◌, ◌<◌, ◌≤◌, ℕ, List, [], length, Option, Ok}
use Rattle.std.specs.Io.KnownBytes.{Consumes, Appends, Keeps, IsAtEnd}
use Rattle.ec_base.specs.Outside.{Rose}
use Rattle.ec_disk.specs.Disk.{View, Counts}
use Rattle.ec_history.specs.declared.shown.Shown.{Shown}
use Rattle.ec_history.specs.declared.shown.Shown.TheVariants.{DiskBad, Spent}
use Rattle.ec_script.specs.Lines.{lines_of}
use Rattle.ec_words.specs.OfText.Lines.{shown_text, text_of}
use Rattle.ec_protocol.specs.Drill.{Read, Fates, bound, drill_in}
use Rattle.ec_protocol.specs.declared.world.World.{World}
use Rattle.ec_protocol.specs.declared.world.WorldFault.{WorldFault}
use Rattle.ec_protocol.specs.declared.world.WorldFault.TheVariants as fault
use Rattle.ec_drill.specs.Limits.{most_bytes, most_lines}
use Rattle.ec_drill.specs.Seen.{Stream}
use Rattle.ec_drill.specs.Arms.{RunArms}
use Rattle.ec_drill.specs.Fates.{IsKnown}
use Rattle.ec_drill.specs.RunFates.{AreOf}
use Rattle.ec_drill.specs.Steps.{CutText, InPart, run_leaves}
use Rattle.ec_drill.specs.Drill.{Outside, IsGiven, Drilled, HoldsState, end_of}
use Rattle.ec_drill.specs.declared.start.Withheld.{Withheld}
use Rattle.ec_drill.specs.declared.start.Withheld.TheVariants as why
use Rattle.ec_drill.specs.declared.status.Status.{Status}
use Rattle.ec_drill.specs.declared.status.Status.TheVariants as status
use Rattle.ec_drill.specs.declared.writing.Cut.{Cut}
use Rattle.ec_drill.specs.declared.writing.Cut.TheVariants as cut

abbrev pub Withholds : Option (List ℕ) → Option (List ℕ) → ℕ → ℕ → Withheld → Type 0
Withholds left left_after faults later why.Bytes = (bytes : List ℕ) × Consumes left left_after bytes × (length bytes ≡ most_bytes + 1)
Withholds left left_after faults later (why.Lines n) = (script : List ℕ) × Consumes left left_after script × IsAtEnd left_after × (length script ≤ most_bytes) × (n ≡ length (lines_of script)) × (most_lines < n)
Withholds left left_after faults later why.Source = Rose faults later
Withholds left left_after faults later why.NoMemory = Unit {0}

abbrev pub status_of : Cut → Status
status_of cut.Disk = status.DiskFault
status_of cut.Sink = status.SinkFault
status_of cut.NoMemory = status.NoMemory

-- The line was written, or a part of it.
abbrev pub RefusedWith : Shown → Status → Status → Option (List ℕ) → Option (List ℕ) → ℕ → ℕ → Type 0
RefusedWith line st result held now before later = ((result ≡ st) × Appends held now (shown_text line)) ⊎ ((c : Cut) × (result ≡ status_of c) × CutText c (shown_text line) held now before later)

-- why the disk wasn't opened is told
abbrev pub TellsUnopened : WorldFault → Status → Option (List ℕ) → Option (List ℕ) → ℕ → ℕ → Type 0
TellsUnopened (fault.BadDisk place) result held now before later = RefusedWith (DiskBad place) status.BadDisk result held now before later
TellsUnopened (fault.Spent n) result held now before later = RefusedWith (Spent n) status.Spent result held now before later
TellsUnopened fault.DiskFailed result held now before later = (result ≡ status.DiskFault) × Keeps held now
TellsUnopened fault.NoSuchOp result held now before later = (result ≡ status.NoMemory) × Keeps held now
TellsUnopened fault.NoSuchMsg result held now before later = (result ≡ status.NoMemory) × Keeps held now
TellsUnopened fault.NoMemory result held now before later = (result ≡ status.NoMemory) × Keeps held now

-- A run on a world, of which all lines were written, and the disk behind it.
pub record WholeOn (tells : Type 0) (before now : ℕ) (armed : Option ℕ) (seen : View) (reads : List Read) (start : World) (number : ℕ) (held mid : Option (List ℕ)) : Type 0 where
  pub fates : List Fates
  pub are : AreOf fates before now
  pub followed : IsKnown tells before now → RunArms (bound reads) 1 reads fates start armed
  pub shown : List Shown
  pub lines : IsKnown tells before now → (drill_in reads fates (Ok start)).0 ≡ shown
  pub status : IsKnown tells before now → (drill_in reads fates (Ok start)).1 ≡ number
  pub bytes : Appends held mid (text_of shown)
  pub disk : tells → HoldsState seen (end_of reads fates start).durable

-- one that was cut off
abbrev pub PartOn : Type 0 → ℕ → ℕ → View → List Read → World → List ℕ → Option (List ℕ) → Option (List ℕ) → Type 0
PartOn tells before now seen reads start last held mid = InPart tells before now (λ fates. (drill_in reads fates (Ok start)).0) (run_leaves seen (bound reads) reads start) last held mid

abbrev pub DrilledOn : Status → Type 0 → Counts → Counts → View → List Read → World → Option (List ℕ) → Option (List ℕ) → ℕ → ℕ → Type 0
DrilledOn status.Done tells old new seen reads start held now writes later = WholeOn tells old.stops new.stops old.armed seen reads start 0 held now
DrilledOn status.BadLine tells old new seen reads start held now writes later = WholeOn tells old.stops new.stops old.armed seen reads start 3 held now
DrilledOn status.Limit tells old new seen reads start held now writes later = WholeOn tells old.stops new.stops old.armed seen reads start 11 held now
DrilledOn status.Spent tells old new seen reads start held now writes later = WholeOn tells old.stops new.stops old.armed seen reads start 15 held now
DrilledOn status.SinkFault tells old new seen reads start held now writes later = Rose writes later × ((last : List ℕ) × PartOn tells old.stops new.stops seen reads start last held now)
DrilledOn status.DiskFault tells old new seen reads start held now writes later = Rose old.faults new.faults × PartOn tells old.stops new.stops seen reads start [] held now
DrilledOn status.NoMemory tells old new seen reads start held now writes later = (last : List ℕ) × PartOn tells old.stops new.stops seen reads start last held now
DrilledOn status.Usage tells old new seen reads start held now writes later = ⊥
DrilledOn status.SourceFault tells old new seen reads start held now writes later = ⊥
DrilledOn status.BadDisk tells old new seen reads start held now writes later = ⊥

-- The drill of these lines, whatever source gave them.
abbrev pub DrillsOver : ℕ → List Read → Status → Outside → Type 0
DrillsOver most lines st w =
    (source : Stream) → IsGiven source lines → Drilled most st (record w { source = source })
