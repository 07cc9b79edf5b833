-- What the code's server is to the machine, and what its faults leave.
use Rattle.std.specs.Prelude.{◌≡◌, ◌==◌, ℕ, Bool, true, false, Option, None, Some, Ok, Err, is_some, IsSome}
use Rattle.ec_base.specs.Outside.{Rose}
use Rattle.ec_disk.specs.Disk.{Counts}
use Rattle.ec_disk.specs.Effects.{IsUnarmed}
use Rattle.ec_wire.specs.declared.msg.Msg.{Msg}
use Rattle.ec_wire.specs.declared.msg.Msg.TheVariants as msg
use Rattle.ec_sessions.specs.declared.window.Window.{Window}
use Rattle.ec_sessions.specs.declared.slot.Slot.{Slot}
use Rattle.ec_durable.specs.Durable.{step}
use Rattle.ec_durable.specs.declared.state.Durable.{Durable}
use Rattle.ec_durable.specs.declared.record.Record.{Record}
use Rattle.ec_durable.specs.declared.record.RecordFault.{RecordFault}
use Rattle.ec_protocol.specs.Server.{Serving, slot_of, in_session, tell, want, back, flush, room, claim, finish}
use Rattle.ec_protocol.specs.declared.server.Server.{Server}
use Rattle.ec_server.specs.declared.state.Core.{Core}
use Rattle.ec_server.specs.declared.messages.Admission.{Admission}
use Rattle.ec_server.specs.declared.messages.Admission.TheVariants.{Passed, Answered, Taken}
use Rattle.ec_server.specs.declared.fault.ServerFault.{ServerFault}
use Rattle.ec_server.specs.declared.fault.ServerFault.TheVariants.{DiskFailed, DiskStopped, Spent, NoMemory}

-- the machine's server, of the durable state and what the code keeps beside it
abbrev pub server : Durable → Core → Server
server d c =
    record {
      durable = d;
      tokens = c.tokens;
      recalls = c.recalls;
      claimed = c.claimed.items;
      number = c.number;
      recorded = c.recorded;
    }

-- a step under way, in which no counter was spent
abbrev pub under : Durable → Core → Serving
under d c = record { server = server d c; sent = c.sent.items; rec = c.rec; spent = None }

-- f at the clerk's slot, where it has one
abbrev pub at_slot : ℕ → (Slot → Serving → Serving) → Serving → Serving
at_slot c f t = elim (slot_of c t) [ None ↦ t | Some sl ↦ f sl t ]

-- What a fault leaves: a spent counter is the machine's, and leaves the server as it was. A fault of the disk has risen its count, and one that stopped stays so.
abbrev pub FaultLeaves : ServerFault → Counts → Counts → Serving → Server → Server → Type 0
FaultLeaves (Spent n) before after done old new = (done.spent ≡ Some n) × (new ≡ old)
FaultLeaves DiskFailed before after done old new = Rose before.faults after.faults
FaultLeaves DiskStopped before after done old new = Rose before.stops after.stops × IsSome before.armed × IsUnarmed after.armed
FaultLeaves NoMemory before after done old new = Unit {0}

-- The same, where no counter is spent.
abbrev pub StopsServer : ServerFault → Counts → Counts → Type 0
StopsServer (Spent n) before after = ⊥
StopsServer DiskFailed before after = Rose before.faults after.faults
StopsServer DiskStopped before after = Rose before.stops after.stops × IsSome before.armed × IsUnarmed after.armed
StopsServer NoMemory before after = Unit {0}

-- A record was committed, or was refused and nothing changed.
abbrev pub Commits : Bool → Record → Durable → Durable → Core → Core → Type 0
Commits true r d e old new = (under e new ≡ record (under e old) { rec = Some r }) × (step r d ≡ Ok e)
Commits false r d e old new = (e ≡ d) × (under e new ≡ under e old) × ((fault : RecordFault) × (step r d ≡ Err fault))

-- What a message's session is to the clerk's slot.
abbrev pub IsLast : ℕ → Bool → Window → Option Slot → Type 0
IsLast ss is_open w None = ⊥
IsLast ss is_open w (Some sl) = ((sl.session == ss) ≡ true) × (sl.session ≡ ss) × (sl.is_open ≡ is_open) × (sl.window ≡ w)

-- A message is taken; or it's passed over or answered, whatever it would do.
abbrev pub Admits : Admission → ℕ → ℕ → ℕ → Bool → Serving → Type 0
Admits Taken c ss e b t = (is_some (slot_of c t) ≡ true) × ((f : Slot → Serving → Serving) → in_session c ss e b f t ≡ at_slot c f t)
Admits Passed c ss e b t = (f : Slot → Serving → Serving) → in_session c ss e b f t ≡ t
Admits (Answered m) c ss e b t = (f : Slot → Serving → Serving) → in_session c ss e b f t ≡ tell c m t

-- What such a message does, once it's taken.
abbrev pub does : ℕ → Msg → Slot → Serving → Serving
does c (msg.Want ss e x h last) sl t = want c ss x h last t
does c (msg.Back ss e x n h) sl t = back ss x n h t
does c (msg.Flush ss e b ops) sl t = flush c ss b ops sl t
does c (msg.Room ss e got ask) sl t = room c ss got ask sl t
does c (msg.Claim ss e list) sl t = claim c ss list sl t
does c (msg.Bye ss e) sl t = finish c sl t
does c _ sl t = t
