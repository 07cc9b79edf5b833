-- Refusals for want of room, told by the lines that a drill wrote.
use Rattle.std.specs.Prelude.{ℕ, List, [], ⊤}
use Rattle.std.proofs.Common.{inl, inr}
use Rattle.ec_history.specs.declared.shown.Shown.{Shown}
use Rattle.ec_durable.specs.declared.state.Durable.{Durable}
use Rattle.ec_protocol.specs.Drill.{Read}
use Rattle.ec_drill.specs.OfPromise.OfRooms.DrillRooms.{AreWithinRoom}
use Rattle.ec_drill.specs.Drill.{Outside, Drilled, IsCut, IsCutClean, IsToldAll, RanInPart}
use Rattle.ec_drill.specs.declared.status.Status.{Status}
use Rattle.ec_drill.specs.declared.status.Status.TheVariants as status

-- Of the lines of a run over this state, where it's known what the disk did.
abbrev pub RoomIsTold : Outside → List Read → Durable → List Shown → Type 0
RoomIsTold w reads state shown = IsToldAll w reads → ∥ AreWithinRoom state.max_objects shown ∥₁

abbrev pub PartTellsRoom : (most : ℕ) (w : Outside) (last : List ℕ) → RanInPart most w last → Type 0
PartTellsRoom most w last r = RoomIsTold w r.reads r.state r.shown

abbrev pub CutTellsRoom : (most : ℕ) (w : Outside) → IsCut most w → Type 0
CutTellsRoom most w (inl part) = PartTellsRoom most w part.0 part.1
CutTellsRoom most w (inr refused) = ⊤

abbrev pub CleanTellsRoom : (most : ℕ) (w : Outside) → IsCutClean most w → Type 0
CleanTellsRoom most w (inl part) = PartTellsRoom most w [] part
CleanTellsRoom most w (inr silent) = ⊤

-- Of each status.
abbrev pub TellsRoom : (most : ℕ) (st : Status) (w : Outside) → Drilled most st w → Type 0
TellsRoom most status.Done w d = RoomIsTold w d.reads d.state d.shown
TellsRoom most status.BadLine w d = RoomIsTold w d.reads d.state d.shown
TellsRoom most status.Limit w (inl tells) = ⊤
TellsRoom most status.Limit w (inr d) = RoomIsTold w d.reads d.state d.shown
TellsRoom most status.Spent w d = RoomIsTold w d.reads d.state d.shown
TellsRoom most status.SinkFault w d = CutTellsRoom most w d.1
TellsRoom most status.DiskFault w d = CleanTellsRoom most w d.1
TellsRoom most status.NoMemory w (inl cut) = CutTellsRoom most w cut
TellsRoom most status.NoMemory w (inr silent) = ⊤
TellsRoom most status.Usage w d = ⊤
TellsRoom most status.SourceFault w d = ⊤
TellsRoom most status.BadDisk w d = ⊤
