-- What a world makes of what came of its server's step.
use Rattle.std.specs.Prelude.{◌≡◌, ◌++◌, ◌∷◌, ℕ, Bool, true, false, List, [], Option, None, Some, Result, Err}
use Rattle.ec_disk.specs.Disk.{View}
use Rattle.ec_disk.specs.declared.disk.Choice.{Choice}
use Rattle.ec_durable.specs.declared.state.Durable.{Durable}
use Rattle.ec_durable.specs.declared.record.Record.{Record}
use Rattle.ec_history.specs.declared.shown.Shown.{Shown}
use Rattle.ec_history.specs.declared.shown.Shown.TheVariants as show
use Rattle.ec_protocol.specs.Server.{Serving}
use Rattle.ec_protocol.specs.Server as server
use Rattle.ec_protocol.specs.declared.server.Served.{Served}
use Rattle.ec_protocol.specs.declared.server.Server.{Server as State}
use Rattle.ec_protocol.specs.declared.world.World.{World as Moved}
use Rattle.ec_protocol.specs.World.{Fate, runs, stops_without, stops_with, Moving, moving, noted, on_disk, stop, show_line}
use Rattle.ec_server.specs.declared.server.Server.{Server}
use Rattle.ec_store.specs.declared.store.Store.{Store}
use Rattle.ec_marking.specs.Keeping.{IsDone, CameOf, StopsSo}
use Rattle.ec_world.specs.Steps.{IsShown}
use Rattle.ec_world.specs.StepEnds.{IsTold}
use Rattle.ec_clerk.specs.declared.running.fault.StepFault.{StepFault}
use Rattle.ec_clerk.specs.declared.running.fault.StepFault.TheVariants as step
use Rattle.ec_marking.specs.declared.keeping.Came.{Came}
use Rattle.ec_marking.specs.declared.keeping.Came.TheVariants as came
use Rattle.ec_marking.specs.declared.marks.Mark.{Mark}
use Rattle.ec_world.specs.declared.world.World.{World}

-- the machine's world with this server and this durable state
abbrev pub serves : Option State → Durable → Moved → Moved
serves s d w = record w { server = s; durable = d }

-- The step was done by this server, which runs.
abbrev pub IsDoneBy : Type 0 → Serving → Durable → List Record → Option Server → Store → View → Served → Option Mark → Type 0
IsDoneBy tells done d before None store now served mark = ⊥
IsDoneBy tells done d before (Some server) store now served mark = IsDone tells done d before server store now served mark

-- What came of the machine's step over the state d, in a world that has its server and its store already.
abbrev pub CameTo : Type 0 → Serving → Durable → World → View → Came Served → Type 0
CameTo tells done d w now came = CameOf (IsDoneBy tells done d w.records.items w.server w.store now) tells done d w.records.items now came

-- The same of a server's start.
abbrev pub CameUp : Type 0 → Durable → World → View → Came (Server × Served) → Type 0
CameUp tells d w now came =
    CameOf (λ made mark. IsDone tells (server.start d) d w.records.items made.0 w.store now made.1 mark) tells (server.start d) d w.records.items now came

-- A stop in its record is told by the turn of the disk that was due.
abbrev pub StopsUp : Type 0 → Durable → Option ℕ → View → Came (Server × Served) → Type 0
StopsUp tells d armed now came = StopsSo came tells armed d (server.start d).server.durable now

-- A stop is one that came, and one that came is shown.
abbrev pub FateIn : Fate → Type 0 → Type 0
FateIn runs Stopped = Stopped → ⊥
FateIn stops_without Stopped = Stopped
FateIn stops_with Stopped = Stopped

-- The step is the machine's by one of its fates, and a stop of the disk is told by what it left.
abbrev pub Finishes : Type 0 → Type 0 → Choice → Option ℕ → List Shown → (Fate → Moving) → Moving → Type 0
Finishes tells Stopped choice armed lines steps m = (fate : Fate) × FateIn fate Stopped × (IsTold fate tells → steps fate ≡ m) × (tells → IsShown fate choice armed lines m.world.shown)

-- Faults that break a world: its disk's, and want of memory.
abbrev pub Breaks : StepFault → Type 0
Breaks step.DiskFailed = Unit {0}
Breaks step.NoMemory = Unit {0}
Breaks _ = ⊥

-- What the world makes of the durable state and the arm behind what came: a step that is done leaves both, and a stop ends the arm.
abbrev pub ArmsBehind : {T : Type 0} → Came T → Durable → Durable → Option ℕ → Option ℕ → Type 0
ArmsBehind (came.Done x mark) before after old new = (after ≡ before) × (new ≡ old)
ArmsBehind (came.Stopped mark) before after old new = new ≡ None
ArmsBehind came.DiskFailed before after old new = ⊥
ArmsBehind came.NoMemory before after old new = ⊥

-- The disk failed behind what came.
abbrev pub FailsSince : {T : Type 0} → Came T → Result (Unit {0}) StepFault → Type 0
FailsSince came.DiskFailed done = ⊥
FailsSince _ done = done ≡ Err step.DiskFailed

-- Power cuts.

-- the world that a power cut leaves, without the record or with it
abbrev pub left_in : Bool → Record → Moved → Moved
left_in false r w = w
left_in true r w = on_disk r w

-- The same of a server's step: where the record is left, a restart is to show it.
abbrev pub stopped_in : Bool → Record → Moved → Moved
stopped_in false r w = stop w
stopped_in true r w = on_disk r (record (stop w) { unshown = noted w.durable r })

abbrev pub with_durable : Durable → Moved → Moved
with_durable d w = record w { durable = d }
