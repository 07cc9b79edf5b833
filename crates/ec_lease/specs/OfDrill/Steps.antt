-- No public clause cites this module: it says what the private steps of a run with leases do.
use Rattle.std.specs.Prelude.{◌≡◌, ◌⊎◌, ◌<◌, ◌≤◌, ◌+◌, ◌*◌, ℕ, List, [], ◌∷◌, ◌++◌, Option, None, Some, Result, Ok, Err, ⊤}
use Rattle.std.specs.Io.KnownBytes.{Appends}
use Rattle.ec_base.specs.Outside.{Rose}
use Rattle.ec_disk.specs.Disk.{Counts}
use Rattle.ec_protocol.specs.World.{Fate, runs, pending}
use Rattle.ec_protocol.specs.Drill.{Fates, max_pending}
use Rattle.ec_protocol.specs.Drill as machine
use Rattle.ec_protocol.specs.declared.world.Event.{Event}
use Rattle.ec_protocol.specs.declared.world.WorldFault.TheVariants as world_fault
use Rattle.ec_lease_machine.specs.OfWords.Text.{lease_texts}
use Rattle.ec_lease_machine.specs.Drill.{LeaseRan, LeaseRead, forgotten, joined_lease, lease_ending, run_from}
use Rattle.ec_lease_machine.specs.Leases.{LeaseMoving, moving, step}
use Rattle.ec_lease_machine.specs.declared.script.LeaseLine.{LeaseLine}
use Rattle.ec_lease_machine.specs.declared.world.LeaseEvent.{LeaseEvent}
use Rattle.ec_lease_machine.specs.declared.world.LeaseEvent.TheVariants as event
use Rattle.ec_lease_machine.specs.declared.world.LeaseFault.{LeaseFault}
use Rattle.ec_lease_machine.specs.declared.world.LeaseFault.TheVariants as fault
use Rattle.ec_lease_machine.specs.declared.world.LeaseShown.{LeaseShown}
use Rattle.ec_lease_machine.specs.declared.world.LeaseWorld.{LeaseWorld}
use Rattle.ec_lease.specs.Steps.{MayStep, most_tick}
use Rattle.ec_lease.specs.OfDrill.Drill.{AllRun, EachRuns, IsClear}
use Rattle.ec_lease.specs.OfDrill.Lines.{IsTimed}
use Rattle.ec_lease.specs.OfDrill.Writing.{CutFront}
use Rattle.ec_lease.specs.declared.drill.running.Ending.{Ending}
use Rattle.ec_lease.specs.declared.drill.running.Ending.TheVariants as ending
use Rattle.ec_lease.specs.declared.drill.writing.Cut.{Cut}
use Rattle.ec_lease.specs.declared.drill.writing.Cut.TheVariants as cut

-- Results of steps.

-- the machine's faults
abbrev pub IsSeen : LeaseFault → Type 0
IsSeen (fault.World (world_fault.BadDisk place)) = ⊥
IsSeen (fault.World world_fault.DiskFailed) = ⊥
IsSeen (fault.World (world_fault.Spent n)) = ⊤
IsSeen (fault.World world_fault.NoSuchOp) = ⊤
IsSeen (fault.World world_fault.NoSuchMsg) = ⊤
IsSeen (fault.World world_fault.NoMemory) = ⊥
IsSeen fault.NoSuchLease = ⊤
IsSeen fault.NoMemory = ⊥

-- the result is one that the machine has too
abbrev pub IsAsMachine : {X : Type 0} → Result X LeaseFault → Type 0
IsAsMachine (Ok x) = ⊤
IsAsMachine (Err f) = IsSeen f

abbrev pub fault_in : {X : Type 0} → Result X LeaseFault → Option LeaseFault
fault_in (Ok x) = None
fault_in (Err f) = Some f

-- steps under way that came to this world with these lines, and perhaps a fault
abbrev pub come : Option LeaseFault → LeaseWorld → List LeaseShown → LeaseMoving
come o x shown = record { world = x; shown = shown; fault = o }

-- Fates: what the disk did, by its stops before and after.

abbrev pub RanUnless : Fate → ℕ → ℕ → Type 0
RanUnless f before now = (f ≡ runs) ⊎ Rose before now

abbrev pub AreRun : Fates → ℕ → ℕ → Type 0
AreRun fates before now = AllRun fates ⊎ Rose before now

abbrev pub EachRan : List Fates → ℕ → ℕ → Type 0
EachRan fates before now = EachRuns fates ⊎ Rose before now

-- Counts don't fall, and faults rose where a call answers so.
pub record AreLater (old new : Counts) (Failing : Type 0) : Type 0 where
  pub faults : old.faults ≤ new.faults
  pub stops : old.stops ≤ new.stops
  pub failed : Failing → Rose old.faults new.faults

-- The clock: a line lets it go on by so much at most.
pub record Advances (x y : LeaseWorld) : Type 0 where
  pub most : y.most ≡ x.most
  pub now : y.now ≤ x.now + most_tick

-- before the line of this number
pub record IsInTime (most number : ℕ) (x : LeaseWorld) : Type 0 where
  pub is_most : x.most ≡ most
  pub now : x.now ≤ number * most_tick

-- One line.

-- what an event makes of a world, if there is one
abbrev pub happens : Fate → Option LeaseEvent → LeaseWorld → LeaseMoving
happens fate None x = moving x
happens fate (Some e) x = step fate e x

abbrev pub world_event : Option Event → Option LeaseEvent
world_event None = None
world_event (Some e) = Some (event.World e)

-- the event of a line that is within its bounds may happen while the clock is
abbrev pub MayFollow : LeaseWorld → LeaseLine → Option LeaseEvent → Type 0
MayFollow x l None = ⊤
MayFollow x l (Some e) = (number : ℕ) → number < 4294967296 → IsTimed x.most l → x.now ≤ number * most_tick → MayStep x e

-- the machine's ending
abbrev pub own_ending : Ending → machine.Ending
own_ending ending.Done = machine.Done
own_ending (ending.BadLine number column) = machine.BadLine number column
own_ending (ending.TooMany n) = machine.TooMany n
own_ending (ending.Spent n) = machine.IsSpent n

-- a line ends a run exactly by a fault
abbrev pub LineEndsBy : Option LeaseFault → ℕ → ℕ → Option Ending → Type 0
LineEndsBy o number column None = o ≡ None
LineEndsBy o number column (Some e) = (f : LeaseFault) × (o ≡ Some f) × (lease_ending number column f ≡ own_ending e)

-- why it was cut off: by the disk, or for want of memory
abbrev pub IsLost : {X : Type 0} → Result X LeaseFault → Cut → Type 0
IsLost {X} r c = ((c ≡ cut.Disk) × (r ≡ Err (fault.World world_fault.DiskFailed))) ⊎ (c ≡ cut.NoMemory)

-- too many messages are pending, or old ones are forgotten
abbrev pub PendingEnd : Option Ending → LeaseWorld → LeaseWorld → Type 0
PendingEnd None x y = (pending x.world ≤ max_pending) × (y ≡ forgotten x)
PendingEnd (Some e) x y = (max_pending < pending x.world) × (e ≡ ending.TooMany (pending x.world)) × (y ≡ x)

-- Runs.

-- a run that came to this world and ended so, with these pieces
abbrev pub ran_to : LeaseWorld → machine.Ending → List (List LeaseShown) → LeaseRan
ran_to x e pieces = record { world = x; pieces = pieces; ending = e }

-- these pieces before those of a run
abbrev pub behind_pieces : List (List LeaseShown) → LeaseRan → LeaseRan
behind_pieces pieces r = record r { pieces = pieces ++ r.pieces }

-- the machine goes on behind a line, or its run ends there
abbrev pub LineEnds : Option Ending → ℕ → ℕ → LeaseRead → List LeaseRead → Fates → LeaseWorld → LeaseWorld → List LeaseShown → Type 0
LineEnds None k number r ahead fates x y piece = (more : List Fates) → run_from k number (r ∷ ahead) (fates ∷ more) x ≡ behind_pieces (piece ∷ []) (run_from k (number + 1) ahead more y)
LineEnds (Some e) k number r ahead fates x y piece = (more : List Fates) → run_from k number (r ∷ ahead) (fates ∷ more) x ≡ ran_to y (own_ending e) (piece ∷ [])

-- A line that was carried out, with its piece written.
pub record LineDone (tells : Type 0) (before later k number : ℕ) (r : LeaseRead) (x y : LeaseWorld) (e : Option Ending) (held now : Option (List ℕ)) : Type 0 where
  pub fates : Fates
  pub are : AreRun fates before later
  pub piece : List LeaseShown
  pub run : IsClear tells before later → (ahead : List LeaseRead) → LineEnds e k number r ahead fates x y piece
  pub bytes : Appends held now (lease_texts piece)

-- A line in which the run was cut off: a front of the lines of the machine's run from this one on was written.
pub record LineCut (tells : Type 0) (old new : Counts) (k number : ℕ) (r : LeaseRead) (x : LeaseWorld) (c : Cut) (held now : Option (List ℕ)) (writes later : ℕ) : Type 0 where
  pub fates : Fates
  pub are : AreRun fates old.stops new.stops
  pub front : (ahead : List LeaseRead) → CutFront c (IsClear tells old.stops new.stops) (joined_lease (run_from k number (r ∷ ahead) (fates ∷ []) x).pieces) held now writes later old.faults new.faults

-- The lines of a run that are still ahead, from this number on, and what was done and written before.
pub record Sofar (tells : Type 0) (before later k : ℕ) (all : List LeaseRead) (start : LeaseWorld) (number : ℕ) (ahead : List LeaseRead) (x : LeaseWorld) (held now : Option (List ℕ)) : Type 0 where
  pub fates : List Fates
  pub are : EachRan fates before later
  pub pieces : List (List LeaseShown)
  pub run : IsClear tells before later → (more : List Fates) → run_from k 1 all (fates ++ more) start ≡ behind_pieces pieces (run_from k number ahead more x)
  pub bytes : Appends held now (lease_texts (joined_lease pieces))

-- A run that ended, with all its pieces written.
pub record LeaseEnded (tells : Type 0) (before later k : ℕ) (all : List LeaseRead) (start : LeaseWorld) (e : machine.Ending) (x : LeaseWorld) (held now : Option (List ℕ)) : Type 0 where
  pub fates : List Fates
  pub are : EachRan fates before later
  pub pieces : List (List LeaseShown)
  pub run : IsClear tells before later → run_from k 1 all fates start ≡ ran_to x e pieces
  pub bytes : Appends held now (lease_texts (joined_lease pieces))

-- One that was cut off.
pub record CutOff (tells : Type 0) (old new : Counts) (k : ℕ) (all : List LeaseRead) (start : LeaseWorld) (c : Cut) (held now : Option (List ℕ)) (writes later : ℕ) : Type 0 where
  pub fates : List Fates
  pub are : EachRan fates old.stops new.stops
  pub front : CutFront c (IsClear tells old.stops new.stops) (joined_lease (run_from k 1 all fates start).pieces) held now writes later old.faults new.faults
