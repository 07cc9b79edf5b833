-- The states on the way of a drill, and what one that was cut off left of its disk.
use Rattle.std.specs.Prelude.{◌≡◌, ℕ, List, [], ⊤}
use Rattle.std.proofs.Common.{inl, inr}
use Rattle.ec_protocol.specs.World.{open_world}
use Rattle.ec_drill.specs.Drill.{Outside, Drilled, IsCut, IsCutClean, IsToldAll, RanInPart, RanWhole}
use Rattle.ec_drill.specs.declared.status.Status as drilled
use Rattle.ec_drill.specs.declared.status.Status.TheVariants as drill
use Rattle.ec_drill.specs.OfPromise.Left.{EndsStored, LeavesStored}
use Rattle.ec_drill.specs.OfPromise.Promise.{AreInOrder}
use Rattle.ec_echo.specs.Statuses.{code, of_drill}

-- behind each of the script's first lines the world of the run is in order, and behind the restart at the end
abbrev pub WholeInOrder : (most number : ℕ) (w : Outside) → RanWhole most number w → Type 0
WholeInOrder most number w r = IsToldAll w r.reads → ∥ AreInOrder r.reads r.fates r.state ∥₁

abbrev pub PartInOrder : (most : ℕ) (w : Outside) (last : List ℕ) → RanInPart most w last → Type 0
PartInOrder most w last r = IsToldAll w r.reads → ∥ AreInOrder r.reads r.fates r.state ∥₁

-- each image that a crash may leave stands for the state at a moment by which all that was written had been shown, with the volume that durable lines name by then
abbrev pub PartLeaves : (most : ℕ) (w : Outside) (last : List ℕ) → RanInPart most w last → Type 0
PartLeaves most w last r = w.store.tells → ∥ LeavesStored w.store.disk_after r.reads r.fates r.state (open_world r.state) r.shown ∥₁

-- P holds of a run that was cut off, if it was
abbrev pub OnCut : (most : ℕ) (w : Outside) → ((last : List ℕ) → RanInPart most w last → Type 0) → IsCut most w → Type 0
OnCut most w P (inl part) = P part.0 part.1
OnCut most w P (inr refused) = ⊤

abbrev pub OnClean : (most : ℕ) (w : Outside) → ((last : List ℕ) → RanInPart most w last → Type 0) → IsCutClean most w → Type 0
OnClean most w P (inl part) = P [] part
OnClean most w P (inr silent) = ⊤

abbrev pub InOrder : (most : ℕ) (st : drilled.Status) (w : Outside) → Drilled most st w → Type 0
InOrder most drill.Done w d = WholeInOrder most 0 w d
InOrder most drill.BadLine w d = WholeInOrder most 3 w d
InOrder most drill.Limit w (inr d) = WholeInOrder most 11 w d
InOrder most drill.Spent w d = WholeInOrder most 15 w d
InOrder most drill.SinkFault w d = OnCut most w (PartInOrder most w) d.1
InOrder most drill.DiskFault w d = OnClean most w (PartInOrder most w) d.1
InOrder most drill.NoMemory w (inl cut) = OnCut most w (PartInOrder most w) cut
InOrder most _ w _ = ⊤

abbrev pub Leaves : (most : ℕ) (st : drilled.Status) (w : Outside) → Drilled most st w → Type 0
Leaves most drill.Spent w r = IsToldAll w r.reads → ∥ EndsStored r.reads r.fates r.state r.shown ∥₁
Leaves most drill.SinkFault w d = OnCut most w (PartLeaves most w) d.1
Leaves most drill.DiskFault w d = OnClean most w (PartLeaves most w) d.1
Leaves most drill.NoMemory w (inl cut) = OnCut most w (PartLeaves most w) cut
Leaves most drill.NoMemory w (inr silent) = ⊤
Leaves most _ w d = ⊤

abbrev pub StatesInOrder : ℕ → Outside → ℕ → Type 0
StatesInOrder result w most = (end : drilled.Status) × (result ≡ code (of_drill end)) × (d : Drilled most end w) × InOrder most end w d

abbrev pub DiskOfCut : ℕ → Outside → ℕ → Type 0
DiskOfCut result w most = (end : drilled.Status) × (result ≡ code (of_drill end)) × (d : Drilled most end w) × Leaves most end w d
