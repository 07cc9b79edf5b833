-- What the parts of a turn make of the value.
use Rattle.std.specs.Prelude.{◌≡◌, ℕ, ◌+◌, ◌<◌, Bool, true, false, not, List, [], ◌∷◌, ◌++◌, length, Option, Some, None, Result, Ok, Err, Vec}
use Rattle.std.specs.declared.alloc.Global.{Global}
use Rattle.std.specs.declared.snapshot.Snapshot.{Snapshot}
use Rattle.ec_base.specs.Limits.{clerk_count}
use Rattle.ec_wire.specs.declared.msg.Msg.{Msg}
use Rattle.ec_protocol.specs.Server.{Serving}
use Rattle.ec_protocol.specs.declared.server.Server.{Server}
use Rattle.ec_protocol.specs.declared.server.Served.{Served}
use Rattle.ec_server.specs.declared.fault.ServerFault.{ServerFault}
use Rattle.ec_server.specs.declared.fault.ServerFault.TheVariants.{DiskFailed, DiskStopped, Spent, NoMemory}
use Rattle.ec_servernode.specs.declared.step.Halt.{Halt}
use Rattle.ec_servernode.specs.declared.step.Halt.TheVariants as halt
use Rattle.ec_servernode.specs.declared.step.Deed.{Deed}
use Rattle.ec_servernode.specs.declared.step.Deed.TheVariants.{Took, Ended, Broke}
use Rattle.ec_servernode.specs.declared.caller.Caller.{Caller}
use Rattle.ec_servernode.specs.declared.fault.ServeFault.{ServeFault}
use Rattle.ec_servernode.specs.declared.shared.Turned.{Turned}
use Rattle.ec_servernode.specs.declared.shared.Turned.TheVariants as turned
use Rattle.ec_servernode.specs.declared.state.Taking.{Taking}
use Rattle.ec_servernode.specs.declared.state.Told.{Told}
use Rattle.ec_servernode.specs.Callers.{hello_in, accepted, refusal_in, behind, refusal_sent}
use Rattle.ec_servernode.specs.Callers.{posted as posted_of}
use Rattle.ec_servernode.specs.declared.state.Node.{Node}
use Rattle.ec_servernode.specs.Breaking.{spends}
use Rattle.ec_servernode.specs.Run.{owner_now, put_all, for_clerk}
use Rattle.ec_servernode.specs.Node.{queue_at, owner_at}

-- a spent counter is the machine's, and leaves all as it was
abbrev pub RefusesMessage : {K : Type 0} → ServerFault → Serving → Server → Server → K → K → Type 0
RefusesMessage (Spent n) done old new keeper kept = (done.spent ≡ Some n) × (new ≡ old) × (kept ≡ keeper)
RefusesMessage DiskFailed done old new keeper kept = Unit {0}
RefusesMessage DiskStopped done old new keeper kept = Unit {0}
RefusesMessage NoMemory done old new keeper kept = Unit {0}

abbrev pub halt_in : ServerFault → Option Halt
halt_in DiskFailed = Some halt.DiskFailed
halt_in DiskStopped = Some halt.DiskStopped
halt_in (Spent n) = Some (halt.Spent n)
halt_in NoMemory = None

-- A step was added, and what is sent by it went to the outboxes, unless memory was wanting for that. A Hello makes its clerk's outbox this pass's.
pub record Grew {K : Type 0} (pass : ℕ) (deed : Deed) (hello : Option ℕ) (sent : List (ℕ × Msg)) (old new : Node K) : Type 0 where
  pub list : new.trace.items ≡ old.trace.items ++ (record { pass = pass; deed = deed; lost = new.broken }) ∷ []
  pub steps : new.steps ≡ old.steps + 1
  pub server : new.server ≡ old.server
  pub keeper : new.keeper ≡ old.keeper
  pub halt_is : new.halt ≡ old.halt
  pub sized : length new.boxes.items ≡ clerk_count
  pub posted : new.broken ≡ false → (k : ℕ) → queue_at new.boxes.items k ≡ put_all (queue_at old.boxes.items k) (for_clerk k sent)
  pub owners : (k : ℕ) → k < clerk_count → owner_at new.boxes.items k ≡ owner_now k hello pass (owner_at old.boxes.items k)

-- by the taking of a message
pub record TookAs {K : Type 0} (pass c : ℕ) (bytes : Snapshot (Vec ℕ Global)) (m : Msg) (served : Served) (old new : Node K) : Type 0 where
  pub shot : Snapshot Msg
  pub copy : Snapshot Served
  pub shot_is : shot.value ≡ m
  pub copy_is : copy.value ≡ served
  pub grew : Grew pass (Took c bytes shot copy) (accepted (refusal_in served.sent) (hello_in m)) (posted_of served.sent) old new

-- by the end of a session
pub record EndedAs {K : Type 0} (pass c : ℕ) (served : Served) (old new : Node K) : Type 0 where
  pub copy : Snapshot Served
  pub copy_is : copy.value ≡ served
  pub grew : Grew pass (Ended c copy) None served.sent old new

-- the server halts
pub record Halts {K : Type 0} (pass : ℕ) (deed : Deed) (h : Halt) (old new : Node K) : Type 0 where
  pub list : new.trace.items ≡ old.trace.items ++ (record { pass = pass; deed = deed; lost = false }) ∷ []
  pub others : new ≡ record old { trace = new.trace; steps = old.steps + 1; halt = Some h; broken = not (spends h) }

-- memory was wanting for a step
pub record Fell {K : Type 0} (pass : ℕ) (old new : Node K) : Type 0 where
  pub list : new.trace.items ≡ old.trace.items ++ (record { pass = pass; deed = Broke; lost = true }) ∷ []
  pub others : new ≡ record old { trace = new.trace; steps = old.steps + 1; broken = true }

-- What a turn makes of the other end of its link.

abbrev pub taken_by : Result Taking ServeFault → Caller → Caller
taken_by (Ok t) k = behind t.hello t.refusal k
taken_by (Err f) k = k

abbrev pub told_by : Result Turned ServeFault → Caller → Caller
told_by (Ok turned.Gave) k = refusal_sent k
told_by (Ok (turned.Took told)) k = k
told_by (Ok turned.Idle) k = k
told_by (Ok turned.Replaced) k = k
told_by (Ok turned.Busy) k = k
told_by (Ok turned.Closed) k = k
told_by (Err f) k = k

abbrev pub told_in : Result Taking ServeFault → Result Told ServeFault
told_in (Ok t) = Ok t.told
told_in (Err f) = Err f
