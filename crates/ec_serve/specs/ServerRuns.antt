-- The runs of a server, and how they end.
use Rattle.std.specs.Prelude.{◌≡◌, ◌≤◌, ◌<◌, ℕ, Bool, true, false, List, [], ◌++◌, None}
use Rattle.ec_base.specs.Outside.{Rose}
use Rattle.ec_base.specs.declared.counter.Counter.{Counter}
use Rattle.ec_disk.specs.Disk.{Counts}
use Rattle.ec_durable.specs.Durable.{steps}
use Rattle.ec_durable.specs.declared.state.Durable.{Durable}
use Rattle.ec_durable.specs.declared.record.Record.{Record}
use Rattle.ec_wire.specs.declared.msg.Msg.{Msg}
use Rattle.ec_protocol.specs.Server.{start}
use Rattle.ec_protocol.specs.declared.server.Server.{Server}
use Rattle.ec_server.specs.Servers.{standing}
use Rattle.ec_server.specs.declared.server.Server.{Server as Own}
use Rattle.ec_lock.specs.Steps.{Member}
use Rattle.ec_link.specs.declared.spawn.Spawned.{Spawned}
use Rattle.ec_link.specs.declared.spawn.Spawned.TheVariants as spawned
use Rattle.ec_servernode.specs.declared.step.Step.{Step}
use Rattle.ec_servernode.specs.Run.{IsRun, halted, records, record_of}
use Rattle.ec_servernode.specs.Node.{Chain, ChainInDoubt}
use Rattle.ec_serve.specs.declared.ending.Ending.{Ending}
use Rattle.ec_serve.specs.declared.ending.Ending.TheVariants as ending
use Rattle.ec_serve.specs.declared.ending.Tended.{Tended}
use Rattle.ec_serve.specs.declared.ending.Tended.TheVariants as tended
use Rattle.ec_serve.specs.Serve.{Outer, Outside, AllBack, RanOut, boxes_of, Spends, RanOn}

abbrev pub tended_of : Spawned → Bool → Bool → Tended
tended_of spawned.Failed failed wants = tended.NotStarted
tended_of spawned.NoMemory failed wants = tended.Cut
tended_of spawned.All true wants = tended.NetFailed
tended_of spawned.All false true = tended.Cut
tended_of spawned.All false false = tended.Done

-- How the links of a server ended. Its own pass then has these numbers, with those of the links' passes, and knows these steps.
abbrev pub Tends : ℕ → Tended → List ℕ → List Step → Outer → Outer → Type 0
Tends count tended.Done joined steps old new = (all : AllBack count steps old new) × ((n : ℕ) → Member n all.passes → Member n joined)
Tends count tended.NetFailed joined steps old new = old.faults < new.faults
Tends count tended.NotStarted joined steps old new = old.starts < new.starts
Tends count tended.Cut joined steps old new = Unit {0}

-- Why a server ends so: what is known where all links have come and gone, and where a counter is spent.
abbrev pub EndsAs : Type 0 → (Counter → Type 0) → ℕ → ℕ → Outer → Outer → Ending → Type 0
EndsAs Whole Spends faults later old new ending.Done = Whole
EndsAs Whole Spends faults later old new ending.DiskFailed = Rose faults later
EndsAs Whole Spends faults later old new (ending.BadDisk place) = ⊥
EndsAs Whole Spends faults later old new ending.NetFailed = old.faults < new.faults
EndsAs Whole Spends faults later old new ending.NoMemory = Unit {0}
EndsAs Whole Spends faults later old new ending.NotStarted = old.starts < new.starts
EndsAs Whole Spends faults later old new (ending.Spent n) = Spends n

module _ {K : Type 0} (kept : K → Durable) (counts : K → Counts) (did breaks : K → Record → K → Type 0) where
  -- what is told of the keeper, however a server ends
  pub record KeeperEnds (old new : K) : Type 0 where
    pub records : List Record
    pub doubt : ChainInDoubt did breaks records old new
    pub faults : (counts old).faults ≤ (counts new).faults
    pub stops : (counts old).stops ≤ (counts new).stops

  -- A run of the server, whose records were committed one after the other.
  pub record RanWhole (s : Server) (boxes : ℕ → List Msg) (before : List Record) (old new : K) : Type 0 where
    pub run : List Step
    pub is_run : IsRun s boxes run
    pub up : halted run ≡ None
    pub chain : Chain did (before ++ records run) old new

  -- A server in this state ends so.
  abbrev pub RanServer : Server → (ℕ → List Msg) → ℕ → Ending → K → K → Outer → Outer → Type 0
  RanServer s boxes count end old new links later =
      KeeperEnds old new × EndsAs ((ran : RanWhole s boxes [] old new) × AllBack count ran.run links later) (λ n. RanOut s boxes n) (counts old).faults (counts new).faults links later end

  -- a server that was just started, which sent this
  abbrev pub RanFrom : Own → List (ℕ × Msg) → ℕ → Ending → K → K → Outer → Outer → Type 0
  RanFrom server sent count end old new links later = RanServer (standing (kept old) server) (boxes_of sent) count end old new links later

  -- a server that is started first
  abbrev pub EndsBy : ℕ → Ending → K → K → Outer → Outer → Type 0
  EndsBy count end old new links later =
      KeeperEnds old new
      × EndsAs ((ran : RanWhole (start (kept old)).server (boxes_of (start (kept old)).sent) (record_of (start (kept old)).rec) old new) × AllBack count ran.run links later) (λ n. Spends (kept old) n) (counts old).faults (counts new).faults links later end

abbrev pub ServesOn : Durable → ℕ → Ending → Outside → Type 0
ServesOn d count end w = EndsAs ((ran : RanOn d w.tells w.disk_after) × AllBack count ran.run w.links w.links_after) (λ n. Spends d n) w.counts.faults w.counts_after.faults w.links w.links_after end
