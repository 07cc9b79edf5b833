-- What a server's step makes of the store and its disk, with the mark of its record.
use Rattle.std.specs.Prelude.{◌≡◌, ◌⊎◌, ℕ, List, Option, None, Some, Result, Ok, Err}
use Rattle.ec_base.specs.declared.counter.Counter.{Counter}
use Rattle.ec_disk.specs.Disk.{View, Counts}
use Rattle.ec_durable.specs.Durable.{step}
use Rattle.ec_durable.specs.declared.state.Durable.{Durable}
use Rattle.ec_durable.specs.declared.record.Record.{Record}
use Rattle.ec_stands.specs.Stands.{StandsFor}
use Rattle.ec_protocol.specs.Server.{Serving}
use Rattle.ec_protocol.specs.declared.server.Served.{Served}
use Rattle.ec_server.specs.Clerks.{Records}
use Rattle.ec_server.specs.Servers.{Does}
use Rattle.ec_server.specs.declared.server.Server.{Server}
use Rattle.ec_server.specs.declared.fault.ServerFault.{ServerFault}
use Rattle.ec_server.specs.declared.fault.ServerFault.TheVariants as server
use Rattle.ec_store.specs.Store.{IsHeld, view_of}
use Rattle.ec_store.specs.declared.store.Store.{Store}
use Rattle.ec_marking.specs.KeptRuns.{LeavesEither, HasRun, StopsAt}
use Rattle.ec_marking.specs.Marks.{IsMark, MarkOf, RecordIsMarked}
use Rattle.ec_marking.specs.declared.keeping.Came.{Came}
use Rattle.ec_marking.specs.declared.keeping.Came.TheVariants.{Done, Stopped, DiskFailed, NoMemory}
use Rattle.ec_marking.specs.declared.marks.Mark.{Mark}

-- The machine's step was done over the state d, behind these records; its record has its mark.
pub record IsDone (tells : Type 0) (done : Serving) (d : Durable) (before : List Record) (server : Server) (store : Store) (now : View) (served : Served) (mark : Option Mark) : Type 0 where
  pub does : Does done (view_of store) server served
  pub mark_is : MarkOf mark served.rec d before
  pub record_of : Records served.rec d (view_of store)
  pub held : tells → IsHeld now store

-- The record of the machine's step may be on the disk: the state takes it, and whatever a crash leaves stands for the state before it or for the
-- stepped one.
pub record InDoubt (tells : Type 0) (done : Serving) (d : Durable) (now : View) (r : Record) : Type 0 where
  pub rec_is : done.rec ≡ Some r
  pub unspent : done.spent ≡ None
  pub steps : step r d ≡ Ok done.server.durable
  pub leaves : tells → LeavesEither r d now
  -- what was synced stands for the state before it
  pub synced : tells → StandsFor now.synced d

-- Whatever a crash leaves stands for the state, or for the one behind the machine's step, where that spends no counter.
abbrev pub LeavesSome : Serving → Durable → View → Type 0
LeavesSome done d now = (image : List ℕ) → now.may_leave image → StandsFor image d ⊎ ((done.spent ≡ None) × StandsFor image done.server.durable)

-- What came of a step over the state d.
abbrev pub CameOf : {T : Type 0} → (T → Option Mark → Type 0) → Type 0 → Serving → Durable → List Record → View → Came T → Type 0
CameOf Did tells done d before now (Done x mark) = Did x mark
CameOf Did tells done d before now (Stopped mark) = (r : Record) × InDoubt tells done d now r × IsMark mark r d before
CameOf Did tells done d before now DiskFailed = (r : Record) × InDoubt tells done d now r
CameOf Did tells done d before now NoMemory = tells → LeavesSome done d now

-- A spent counter changes nothing.
pub record Unchanged (tells : Type 0) (done : Serving) (n : Counter) (old new : Store) (now : View) : Type 0 where
  pub spent : done.spent ≡ Some n
  pub store : new ≡ old
  pub held : tells → IsHeld now new

-- A record in which the disk stopped has its mark.
abbrev pub HasMark : {T : Type 0} → Result T ServerFault → Option Mark → Type 0
HasMark (Err server.DiskStopped) None = ⊥
HasMark answer mark = Unit {0}

-- What a server's answer and the mark become.
abbrev pub Turns : {T : Type 0} → Result T ServerFault → Option Mark → Result (Came T) Counter → Type 0
Turns (Ok x) mark to = to ≡ Ok (Done x mark)
Turns (Err (server.Spent n)) mark to = to ≡ Err n
Turns (Err server.DiskFailed) mark to = to ≡ Ok DiskFailed
Turns (Err server.DiskStopped) None to = ⊥
Turns (Err server.DiskStopped) (Some mark) to = to ≡ Ok (Stopped mark)
Turns (Err server.NoMemory) mark to = to ≡ Ok NoMemory

abbrev pub HasStoppedIn : {T : Type 0} → Came T → Type 0
HasStoppedIn (Stopped mark) = Unit {0}
HasStoppedIn _ = ⊥

abbrev pub IsStop : {T : Type 0} → Result (Came T) Counter → Type 0
IsStop (Ok came) = HasStoppedIn came
IsStop (Err n) = ⊥

-- No turn of the disk was due in a step that is done.
abbrev pub RunsIn : {T : Type 0} → Came T → Durable → Durable → Counts → Counts → Type 0
RunsIn (Done x mark) before after old new = HasRun before after old new
RunsIn _ before after old new = Unit {0}

-- A stop in its record is told by the turn of the disk that was due.
abbrev pub StopsSo : {T : Type 0} → Came T → Type 0 → Option ℕ → Durable → Durable → View → Type 0
StopsSo (Stopped mark) tells armed before stepped now = tells → StopsAt armed before stepped now
StopsSo _ tells armed before stepped now = Unit {0}

abbrev pub IfDone : {T : Type 0} → Came T → (T → Type 0) → Type 0
IfDone (Done x mark) P = P x
IfDone _ P = Unit {0}

-- Where the step is done, its record has a mark.
abbrev pub IsMarked : {T : Type 0} → Came T → Type 0
IsMarked (Done x None) = ⊥
IsMarked _ = Unit {0}
