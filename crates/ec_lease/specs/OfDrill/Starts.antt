-- No public clause cites this module: it says what the private steps of a drill with leases do.
use Rattle.std.specs.Prelude.{◌≡◌, ◌⊎◌, ◌+◌, ◌<◌, ◌≤◌, ℕ, List, length, Option, Ok}
use Rattle.std.specs.Io.KnownBytes.{Consumes, Appends, Keeps, IsAtEnd}
use Rattle.ec_base.specs.Outside.{Rose}
use Rattle.ec_disk.specs.Disk.{View, Counts}
use Rattle.ec_history.specs.declared.shown.Shown.{Shown}
use Rattle.ec_history.specs.declared.shown.Shown.TheVariants.{DiskBad, Spent}
use Rattle.ec_script.specs.Lines.{lines_of}
use Rattle.ec_words.specs.OfText.Lines.{shown_text}
use Rattle.ec_lease_machine.specs.OfWords.Text.{lease_texts}
use Rattle.ec_protocol.specs.declared.world.World.{World}
use Rattle.ec_protocol.specs.declared.world.WorldFault.{WorldFault}
use Rattle.ec_protocol.specs.declared.world.WorldFault.TheVariants as fault
use Rattle.ec_protocol.specs.Drill.{Fates}
use Rattle.ec_lease_machine.specs.Drill.{LeaseRead, drill_in}
use Rattle.ec_lease_machine.specs.OfLeaseWorlds.Lines.{lease_run}
use Rattle.ec_lease_machine.specs.declared.world.LeaseShown.{LeaseShown}
use Rattle.ec_lease.specs.OfDrill.Script.{AreRead, most_bytes, most_lines}
use Rattle.ec_lease.specs.OfDrill.Drill.{LeaseOutside, GivesReads, IsClear, KeepsState, LeaseDrilled}
use Rattle.ec_lease.specs.OfDrill.Steps.{EachRan}
use Rattle.ec_lease.specs.OfDrill.Writing.{CutText, CutFront}
use Rattle.ec_lease.specs.OfDrill.Closing.{Numbers}
use Rattle.ec_lease.specs.declared.drill.start.Withheld.{Withheld}
use Rattle.ec_lease.specs.declared.drill.start.Withheld.TheVariants as why
use Rattle.ec_lease.specs.declared.drill.status.Status.{Status}
use Rattle.ec_lease.specs.declared.drill.status.Status.TheVariants as status
use Rattle.ec_lease.specs.declared.drill.writing.Cut.{Cut}
use Rattle.ec_lease.specs.declared.drill.writing.Cut.TheVariants as cut

-- the source was read to its end and gave a script within the limits
pub record GivesScript (e : ℕ) (left left_after : Option (List ℕ)) (reads : List LeaseRead) : Type 0 where
  pub script : List ℕ
  pub given : Consumes left left_after script
  pub at_end : IsAtEnd left_after
  pub few_bytes : length script ≤ most_bytes
  pub few_lines : length (lines_of script) ≤ most_lines
  pub read : AreRead e (lines_of script) reads

abbrev pub Withholds : Option (List ℕ) → Option (List ℕ) → ℕ → ℕ → Withheld → Type 0
Withholds left left_after faults later why.Bytes = (bytes : List ℕ) × Consumes left left_after bytes × (length bytes ≡ most_bytes + 1)
Withholds left left_after faults later (why.Lines n) = (script : List ℕ) × Consumes left left_after script × IsAtEnd left_after × (length script ≤ most_bytes) × (n ≡ length (lines_of script)) × (most_lines < n)
Withholds left left_after faults later why.Source = Rose faults later
Withholds left left_after faults later why.NoMemory = Unit {0}

abbrev pub status_of : Cut → Status
status_of cut.Disk = status.DiskFault
status_of cut.Sink = status.SinkFault
status_of cut.NoMemory = status.NoMemory

-- The line was written, or a part of it.
abbrev pub RefusedWith : Shown → Status → Status → Option (List ℕ) → Option (List ℕ) → ℕ → ℕ → Type 0
RefusedWith line st result held now before later = ((result ≡ st) × Appends held now (shown_text line)) ⊎ ((c : Cut) × (result ≡ status_of c) × CutText c (shown_text line) held now before later)

-- why the disk wasn't opened is told
abbrev pub TellsUnopened : WorldFault → Status → Option (List ℕ) → Option (List ℕ) → ℕ → ℕ → Type 0
TellsUnopened (fault.BadDisk place) result held now before later = RefusedWith (DiskBad place) status.BadDisk result held now before later
TellsUnopened (fault.Spent n) result held now before later = RefusedWith (Spent n) status.Spent result held now before later
TellsUnopened fault.DiskFailed result held now before later = (result ≡ status.DiskFault) × Keeps held now
TellsUnopened _ result held now before later = (result ≡ status.NoMemory) × Keeps held now

-- A run on a world, of which all lines were written, and the disk behind it.
pub record AllOn (l e : ℕ) (st : Status) (tells : Type 0) (before later : ℕ) (seen : View) (reads : List LeaseRead) (start : World) (held now : Option (List ℕ)) : Type 0 where
  pub fates : List Fates
  pub are : EachRan fates before later
  pub shown : List LeaseShown
  pub lines : IsClear tells before later → (drill_in l e reads fates (Ok start)).0 ≡ shown
  pub own : (n : ℕ) × Numbers st n
  pub status : IsClear tells before later → Numbers st (drill_in l e reads fates (Ok start)).1
  pub bytes : Appends held now (lease_texts shown)
  pub disk : ((drill_in l e reads fates (Ok start)).1 ≡ 15 → ⊥) → tells → KeepsState seen (lease_run l e reads fates start).world.world.durable

-- one that was cut off
pub record PartOn (l e : ℕ) (c : Cut) (tells : Type 0) (old new : Counts) (reads : List LeaseRead) (start : World) (held now : Option (List ℕ)) (writes later : ℕ) : Type 0 where
  pub fates : List Fates
  pub are : EachRan fates old.stops new.stops
  pub front : CutFront c (IsClear tells old.stops new.stops) (drill_in l e reads fates (Ok start)).0 held now writes later old.faults new.faults

-- so a drill ended on a world that was opened
abbrev pub EndedOn : ℕ → ℕ → Status → Type 0 → Counts → Counts → View → List LeaseRead → World → Option (List ℕ) → Option (List ℕ) → ℕ → ℕ → Type 0
EndedOn l e st tells old new seen reads start held now writes later =
    AllOn l e st tells old.stops new.stops seen reads start held now ⊎ ((c : Cut) × (st ≡ status_of c) × PartOn l e c tells old new reads start held now writes later)

-- The drill of these lines, whatever source gave them.
abbrev pub DrillsOver : ℕ → ℕ → List LeaseRead → Status → LeaseOutside → Type 0
DrillsOver l e lines st w =
    (left left_after : Option (List ℕ)) (reads reads_after : ℕ)
    → GivesReads e (record w { left = left; left_after = left_after; reads = reads; reads_after = reads_after }) lines
    → LeaseDrilled l e st (record w { left = left; left_after = left_after; reads = reads; reads_after = reads_after })
