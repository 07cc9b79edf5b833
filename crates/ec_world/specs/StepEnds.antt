-- How the calls of a world end, with or without a stop of its disk.
use Rattle.std.specs.Prelude.{◌≡◌, ◌⊎◌, ℕ, Option, List, length, Err, None, Some, IsSome}
use Rattle.ec_base.specs.Outside.{Rose}
use Rattle.ec_disk.specs.Disk.{Counts}
use Rattle.ec_disk.specs.Effects.{Counted}
use Rattle.ec_disk.specs.declared.disk.Choice.{Choice}
use Rattle.ec_disk.specs.declared.disk.Choice.TheVariants as choice
use Rattle.ec_durable.specs.declared.state.Durable.{Durable}
use Rattle.ec_history.specs.declared.shown.Shown.{Shown}
use Rattle.ec_stands.specs.Stands.{StandsFor, IsBadAt}
use Rattle.ec_protocol.specs.World.{Fate, runs, stops_without, stops_with, Moving, open_world}
use Rattle.ec_protocol.specs.declared.world.World.{World as State}
use Rattle.ec_marking.specs.KeptRuns.{HasRun}
use Rattle.ec_world.specs.Worlds.{view_of}
use Rattle.ec_clerk.specs.declared.running.fault.StepFault.{StepFault}
use Rattle.ec_clerk.specs.declared.running.fault.StepFault.TheVariants as step
use Rattle.ec_world.specs.declared.world.World.{World}
use Rattle.ec_protocol.specs.declared.world.Event.{Event}
use Rattle.ec_protocol.specs.declared.world.Event.TheVariants.{Arm}
use Rattle.ec_protocol.specs.declared.world.WorldFault.{WorldFault}
use Rattle.ec_protocol.specs.declared.world.WorldFault.TheVariants.{BadDisk, DiskFailed, Spent, NoSuchOp, NoSuchMsg, NoMemory}
use Rattle.ec_world.specs.Steps.{Opens, IsShown}

-- Why a disk that gave this isn't opened; what it gives now, and what a crash may leave of it.
abbrev pub Unopened : WorldFault → Type 0 → List ℕ → List ℕ → (List ℕ → Type 0) → ℕ → Type 0
Unopened (BadDisk place) tells gives now may_leave most = tells → (length gives ≡ 0 → ⊥) × IsBadAt gives place × (now ≡ gives)
Unopened (Spent n) tells gives now may_leave most =
    (d : Durable) × Opens tells gives most d × (open_world d ≡ Err n) × (tells → (image : List ℕ) → may_leave image → StandsFor image d)
Unopened NoSuchOp tells gives now may_leave most = ⊥
Unopened NoSuchMsg tells gives now may_leave most = ⊥
Unopened DiskFailed tells gives now may_leave most = Unit {0}
Unopened NoMemory tells gives now may_leave most = Unit {0}

-- Steps.

-- A stop comes only on an armed disk, whose stops rise, and ends the arm.
pub record HasStopped (old new : Counts) : Type 0 where
  pub stops : Rose old.stops new.stops
  pub armed : IsSome old.armed
  pub disarmed : new.armed ≡ None

abbrev pub FateOf : Fate → Durable → Durable → Counts → Counts → Type 0
FateOf runs before after old new = HasRun before after old new
FateOf stops_without before after old new = HasStopped old new
FateOf stops_with before after old new = HasStopped old new

-- What a stop left is read back from the disk: of a disk that doesn't tell its content nothing is claimed then.
abbrev pub IsTold : Fate → Type 0 → Type 0
IsTold runs tells = Unit {0}
IsTold stops_without tells = tells
IsTold stops_with tells = tells

-- The step is the machine's by one of its fates, as the disk and the choice of the world allow, from this state and these lines on.
abbrev pub Fated : Type 0 → Durable → List Shown → Counts → Counts → Choice → (Fate → Moving) → Moving → Type 0
Fated tells before lines old new choice steps m = (fate : Fate) × FateOf fate before m.world.durable old new × (IsTold fate tells → steps fate ≡ m) × (tells → IsShown fate choice old.armed lines m.world.shown)

-- Why a step isn't taken. A fault of the machine changes nothing.
abbrev pub RefusesEvent : WorldFault → Moving → State → State → Type 0 → Type 0
RefusesEvent (BadDisk place) m old new in_step = ⊥
RefusesEvent (Spent n) m old new in_step = (m.fault ≡ Some (Spent n)) × (new ≡ old) × in_step
RefusesEvent NoSuchOp m old new in_step = (m.fault ≡ Some NoSuchOp) × (new ≡ old) × in_step
RefusesEvent NoSuchMsg m old new in_step = (m.fault ≡ Some NoSuchMsg) × (new ≡ old) × in_step
RefusesEvent DiskFailed m old new in_step = Unit {0}
RefusesEvent NoMemory m old new in_step = Unit {0}

-- how a disk is armed where an event goes on: one that arms it has done so
abbrev pub armed_by : Event → Option ℕ → Option ℕ
armed_by (Arm n ch) armed = Some n
armed_by _ armed = armed

abbrev pub behind_arm : Event → Counts → Counts
behind_arm e c = record c { armed = armed_by e c.armed }

-- The disk's counts behind an event: one that arms does nothing else there, and does it but where memory is wanting. A stop shows in them,
-- and is no fault.
abbrev pub CountsOf : Event → Counts → Counts → Type 0 → Type 0 → Type 0
CountsOf (Arm n ch) old new failed wants = ((new ≡ record old { armed = Some n }) ⊎ (wants × (new ≡ old))) × (failed → ⊥)
CountsOf _ old new failed wants = Counted old new failed ⊥

-- An image stands for the state before a step that isn't taken, or for the one behind it, where the machine takes it.
pub data IsLeft (before : Durable) (m : Moving) (image : List ℕ) : Type 0 where
  as_before : StandsFor image before → IsLeft before m image
  as_behind : m.fault ≡ None → StandsFor image m.world.durable → IsLeft before m image

-- the step under way
abbrev pub under : World → Moving
under w = record { world = view_of w; shown = w.piece.items; fault = None }

-- Why a step that makes no call of the disk isn't taken.
abbrev pub Declines : StepFault → Moving → State → State → Type 0
Declines (step.Spent n) m old new = (m.fault ≡ Some (Spent n)) × (new ≡ old)
Declines step.NoSuchOp m old new = (m.fault ≡ Some NoSuchOp) × (new ≡ old)
Declines step.NoSuchMsg m old new = (m.fault ≡ Some NoSuchMsg) × (new ≡ old)
Declines step.DiskFailed m old new = ⊥
Declines step.NoMemory m old new = Unit {0}
