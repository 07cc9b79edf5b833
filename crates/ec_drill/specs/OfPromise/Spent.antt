-- Counters that are spent, told by the lines that a drill wrote.
use Rattle.std.specs.Prelude.{ℕ, List, [], ⊤}
use Rattle.std.proofs.Common.{inl, inr}
use Rattle.ec_history.specs.declared.shown.Shown.{Shown}
use Rattle.ec_protocol.specs.Drill.{Read}
use Rattle.ec_drill.specs.OfPromise.OfSpent.SpentDrills.{AllSpendFew}
use Rattle.ec_drill.specs.Drill.{Outside, Drilled, IsCut, IsCutClean, IsToldAll, RanInPart}
use Rattle.ec_drill.specs.declared.status.Status.{Status}
use Rattle.ec_drill.specs.declared.status.Status.TheVariants as status

-- Of the lines of a run, where it's known what the disk did.
abbrev pub SpentIsTold : Outside → List Read → List Shown → Type 0
SpentIsTold w reads shown = IsToldAll w reads → AllSpendFew shown

abbrev pub PartTellsSpent : (most : ℕ) (w : Outside) (last : List ℕ) → RanInPart most w last → Type 0
PartTellsSpent most w last r = SpentIsTold w r.reads r.shown

abbrev pub CutTellsSpent : (most : ℕ) (w : Outside) → IsCut most w → Type 0
CutTellsSpent most w (inl part) = PartTellsSpent most w part.0 part.1
CutTellsSpent most w (inr refused) = ⊤

abbrev pub CleanTellsSpent : (most : ℕ) (w : Outside) → IsCutClean most w → Type 0
CleanTellsSpent most w (inl part) = PartTellsSpent most w [] part
CleanTellsSpent most w (inr silent) = ⊤

-- Of each status: a line that tells a spent counter tells that of boots, of sessions, of epochs or of ids.
abbrev pub TellsSpent : (most : ℕ) (st : Status) (w : Outside) → Drilled most st w → Type 0
TellsSpent most status.Done w d = SpentIsTold w d.reads d.shown
TellsSpent most status.BadLine w d = SpentIsTold w d.reads d.shown
TellsSpent most status.Limit w (inl tells) = ⊤
TellsSpent most status.Limit w (inr d) = SpentIsTold w d.reads d.shown
TellsSpent most status.Spent w d = SpentIsTold w d.reads d.shown
TellsSpent most status.SinkFault w d = CutTellsSpent most w d.1
TellsSpent most status.DiskFault w d = CleanTellsSpent most w d.1
TellsSpent most status.NoMemory w (inl cut) = CutTellsSpent most w cut
TellsSpent most status.NoMemory w (inr silent) = ⊤
TellsSpent most status.Usage w d = ⊤
TellsSpent most status.SourceFault w d = ⊤
TellsSpent most status.BadDisk w d = ⊤
