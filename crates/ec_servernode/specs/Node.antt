-- What the value behind the lock says of its list of steps.
use Rattle.std.specs.Prelude.{◌≡◌, ℕ, ◌≤◌, ◌<◌, ◌⊎◌, zero, suc, true, false, List, [], ◌∷◌, length, Option, Some, None}
use Rattle.ec_base.specs.Limits.{clerk_count}
use Rattle.ec_base.specs.Outside.{Rose}
use Rattle.ec_disk.specs.Disk.{Counts}
use Rattle.ec_wire.specs.declared.msg.Msg.{Msg}
use Rattle.ec_durable.specs.declared.state.Durable.{Durable}
use Rattle.ec_durable.specs.declared.record.Record.{Record}
use Rattle.ec_protocol.specs.declared.server.Server.{Server}
use Rattle.ec_server.specs.Servers.{standing, StandsOn}
use Rattle.ec_servernode.specs.declared.step.Halt.{Halt}
use Rattle.ec_servernode.specs.declared.step.Halt.TheVariants as halt
use Rattle.ec_servernode.specs.declared.state.Outbox.{Outbox}
use Rattle.ec_servernode.specs.declared.state.Node.{Node}
use Rattle.ec_servernode.specs.Breaking.{Broken}
use Rattle.ec_servernode.specs.Run.{IsRun, leads, records, halted, box_from, owner}

-- a clerk's outbox, and whose it is
abbrev pub queue_at : List Outbox → ℕ → List Msg
queue_at [] c = []
queue_at (b ∷ bs) zero = b.msgs.items
queue_at (b ∷ bs) (suc c) = queue_at bs c

abbrev pub owner_at : List Outbox → ℕ → Option ℕ
owner_at [] c = None
owner_at (b ∷ bs) zero = b.owner
owner_at (b ∷ bs) (suc c) = owner_at bs c

-- each record was committed behind the one before
abbrev pub Chain : {K : Type 0} → (K → Record → K → Type 0) → List Record → K → K → Type 0
Chain did [] old new = new ≡ old
Chain {K} did (r ∷ rs) old new = (mid : K) × did old r mid × Chain did rs mid new

-- What a step that was left in the middle makes of the keeper: nothing, or its record was committed, or may have been.
abbrev pub Doubt : {K : Type 0} → (did breaks : K → Record → K → Type 0) → K → K → Type 0
Doubt did breaks old new = (new ≡ old) ⊎ ((r : Record) × (did old r new ⊎ breaks old r new))

-- these records were committed, and a step behind them may have been left in the middle
abbrev pub ChainInDoubt : {K : Type 0} → (did breaks : K → Record → K → Type 0) → List Record → K → K → Type 0
ChainInDoubt {K} did breaks rs old new = (mid : K) × Chain did rs old mid × Doubt did breaks mid new

-- the disk's counts don't fall, and a fault of the disk or a stop is counted
pub record CountsUp (h : Option Halt) (old new : Counts) : Type 0 where
  pub faults : old.faults ≤ new.faults
  pub stops : old.stops ≤ new.stops
  pub failed : h ≡ Some halt.DiskFailed → Rose old.faults new.faults
  pub stopped : h ≡ Some halt.DiskStopped → Rose old.stops new.stops

-- the machine's server
abbrev pub state_of : {K : Type 0} → (K → Durable) → Node K → Server
state_of kept n = standing (kept n.keeper) n.server

module _ {K : Type 0} (kept : K → Durable) (counts : K → Counts) (did breaks : K → Record → K → Type 0) where
  -- how the value stands to the one that the lock was made with
  pub record Since (first now : Node K) : Type 0 where
    pub run : IsRun (state_of kept first) (queue_at first.boxes.items) now.trace.items
    pub counted : now.steps ≡ length now.trace.items
    pub leads_to : now.broken ≡ false → leads (state_of kept first) now.trace.items ≡ state_of kept now
    pub stands : StandsOn (kept now.keeper) now.server
    pub chain : now.broken ≡ false → Chain did (records now.trace.items) first.keeper now.keeper
    pub doubt : ChainInDoubt did breaks (records now.trace.items) first.keeper now.keeper
    pub sized : length now.boxes.items ≡ clerk_count
    pub boxes : now.broken ≡ false → (c : ℕ) → c < clerk_count → queue_at now.boxes.items c ≡ box_from c (queue_at first.boxes.items c) now.trace.items
    pub owners : now.broken ≡ false → (c : ℕ) → c < clerk_count → owner_at now.boxes.items c ≡ owner c now.trace.items
    pub halt_is : now.halt ≡ halted now.trace.items
    pub wanted : now.broken ≡ true → Broken now.trace.items
    pub counted_up : CountsUp (halted now.trace.items) (counts first.keeper) (counts now.keeper)

  abbrev pub Keeps : Node K → Node K → Type 0
  Keeps old new = (first : Node K) → Since first old → Since first new
