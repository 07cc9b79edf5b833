-- What a server does with its disk and its net.
use Rattle.std.specs.Prelude.{◌≡◌, ◌⊎◌, ◌<◌, ◌+◌, ℕ, List, [], ◌++◌, length, map, Some, None, Ok}
use Rattle.ec_base.specs.Outside.{Rose}
use Rattle.ec_base.specs.declared.counter.Counter.{Counter}
use Rattle.ec_disk.specs.Disk.{View, Counts}
use Rattle.ec_durable.specs.Durable.{formatted, steps}
use Rattle.ec_durable.specs.WellFormed.{most_max_objects}
use Rattle.ec_durable.specs.declared.state.Durable.{Durable}
use Rattle.ec_stands.specs.Stands.{StandsFor, IsBadAt}
use Rattle.ec_wire.specs.declared.msg.Msg.{Msg}
use Rattle.ec_protocol.specs.Server.{start}
use Rattle.ec_protocol.specs.declared.server.Server.{Server}
use Rattle.ec_lock.specs.Steps.{Distinct}
use Rattle.ec_link.specs.Happenings.{total}
use Rattle.ec_link.specs.Nets.{Ended}
use Rattle.ec_servernode.specs.declared.step.Halt.TheVariants as halt
use Rattle.ec_servernode.specs.declared.step.Step.{Step}
use Rattle.ec_servernode.specs.Run.{IsRun, halted, records, record_of, put_all, for_clerk}
use Rattle.ec_serve.specs.OfThreads.Moments.{Back, AreServed}
use Rattle.ec_serve.specs.declared.ending.Ending.{Ending}
use Rattle.ec_serve.specs.declared.ending.Ending.TheVariants as ending

-- A disk is opened: an empty one is formatted, and any other one stands for the state.
pub record Opens (tells : Type 0) (gives : List ℕ) (d : Durable) : Type 0 where
  pub empty : tells → length gives ≡ 0 → d ≡ formatted most_max_objects
  pub stands : tells → (length gives ≡ 0 → ⊥) → StandsFor gives d

-- A disk stands for a state: what a read gives does, and each image that a crash may leave.
pub record HoldsState (now : View) (state : Durable) : Type 0 where
  pub gives : StandsFor now.gives state
  pub crash : (image : List ℕ) → now.may_leave image → StandsFor image state

-- a net and who starts threads, at one moment: how often each failed, the net's bad links, and those that came back
pub record Outer : Type 0 where
  pub faults : ℕ
  pub bad : ℕ
  pub ended : List Ended
  pub starts : ℕ

-- a disk, a net and who starts threads, before and after
pub record Outside : Type 1 where
  pub tells : Type 0
  pub disk : View
  pub disk_after : View
  pub counts : Counts
  pub counts_after : Counts
  pub links : Outer
  pub links_after : Outer

-- So many links came and were given back, each closed, failed, refused or replaced. Each was served by a pass of its own: the steps of the run with its number are those for the bodies that this link gave and got.
pub record AllBack (count : ℕ) (run : List Step) (old new : Outer) : Type 0 where
  pub links : List Back
  pub number : length links ≡ count
  pub ended : new.ended ≡ old.ended ++ map (λ l. l.0) links
  pub bad : new.bad ≡ old.bad + total (λ l. l.1) links
  pub passes : List ℕ
  pub distinct : Distinct passes
  pub own : AreServed run passes links

-- A run of a server, which a spent counter ends.
pub record RanOut (s : Server) (boxes : ℕ → List Msg) (n : Counter) : Type 0 where
  pub run : List Step
  pub is_run : IsRun s boxes run
  pub spent : halted run ≡ Some (halt.Spent n)

-- the outboxes of a server that was just started
abbrev pub boxes_of : List (ℕ × Msg) → ℕ → List Msg
boxes_of sent c = put_all [] (for_clerk c sent)

-- the counter is to pass its limit in the start of a server on this state, or in a step of its run
abbrev pub Spends : Durable → Counter → Type 0
Spends d n = ((start d).spent ≡ Some n) ⊎ RanOut (start d).server (boxes_of (start d).sent) n

-- A run of a server from this state, and what stands on the disk behind it: the fold of its records.
pub record RanOn (d : Durable) (tells : Type 0) (now : View) : Type 0 where
  pub run : List Step
  pub is_run : IsRun (start d).server (boxes_of (start d).sent) run
  pub up : halted run ≡ None
  pub final : Durable
  pub folded : steps (record_of (start d).rec ++ records run) d ≡ Ok final
  pub disk : tells → HoldsState now final

-- the disk isn't empty, stands for no state, this is its first bad place, and it gives what it gave
abbrev pub IsBad : Outside → ℕ → Type 0
IsBad w place = w.tells → (length w.disk.gives ≡ 0 → ⊥) × IsBadAt w.disk.gives place × (w.disk_after.gives ≡ w.disk.gives)

-- the disk was opened: it's none that is bad
abbrev pub IsOpened : Outside → Type 0
IsOpened w = (d : Durable) × Opens w.tells w.disk.gives d

-- Each ending, by its causes. Where all links have come and gone, the disk stands for the fold of the records of one server run from the state that was opened, and this run has for each link the steps of a pass of
-- its own, which are those for the bodies that the link gave and got.
abbrev pub Serves : ℕ → Ending → Outside → Type 0
Serves count (ending.BadDisk place) w = IsBad w place
Serves count ending.DiskFailed w = Rose w.counts.faults w.counts_after.faults
Serves count ending.NetFailed w = IsOpened w × (w.links.faults < w.links_after.faults)
Serves count ending.NoMemory w = Unit {0}
Serves count ending.NotStarted w = IsOpened w × (w.links.starts < w.links_after.starts)
Serves count ending.Done w = (d : Durable) × Opens w.tells w.disk.gives d × (ran : RanOn d w.tells w.disk_after) × AllBack count ran.run w.links w.links_after
Serves count (ending.Spent n) w = (d : Durable) × Opens w.tells w.disk.gives d × Spends d n
