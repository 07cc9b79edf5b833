-- What an opening promises of its parts.
use Rattle.std.specs.Prelude.{◌≡◌, ◌++◌, ◌∷◌, ℕ, List, [], length, Option, None, Some, Result, Ok, Err}
use Rattle.ec_durable.specs.declared.state.Durable.{Durable}
use Rattle.ec_durable.specs.declared.record.Record.{Record}
use Rattle.ec_durable.specs.declared.record.Record.TheVariants as record_of
use Rattle.ec_stands.specs.Stands.{StandsFor, IsBadAt}
use Rattle.ec_protocol.specs.Server.{Serving}
use Rattle.ec_protocol.specs.Server as machine
use Rattle.ec_protocol.specs.World.{open_world}
use Rattle.ec_protocol.specs.declared.server.Served.{Served}
use Rattle.ec_protocol.specs.declared.server.Server.{Server}
use Rattle.ec_server.specs.declared.server.Server.{Server as Code}
use Rattle.ec_store.specs.declared.fault.StoreFault.{StoreFault}
use Rattle.ec_store.specs.declared.fault.StoreFault.TheVariants as store
use Rattle.ec_base.specs.declared.trace.Trace.{Trace}
use Rattle.ec_marking.specs.declared.keeping.Came.{Came}
use Rattle.ec_marking.specs.declared.keeping.Came.TheVariants.{Done, Stopped}
use Rattle.ec_marking.specs.declared.keeping.Came.TheVariants as came
use Rattle.ec_marking.specs.declared.marks.Mark.{Mark}
use Rattle.ec_protocol.specs.declared.world.WorldFault.{WorldFault}
use Rattle.ec_protocol.specs.declared.world.WorldFault.TheVariants.{BadDisk, DiskFailed, Spent, NoSuchOp, NoSuchMsg, NoMemory}

-- Why a disk that gave this has no store, and now gives that.
abbrev pub Unread : WorldFault → Type 0 → List ℕ → List ℕ → Type 0
Unread (BadDisk place) tells gives now = tells → (length gives ≡ 0 → ⊥) × IsBadAt gives place × (now ≡ gives)
Unread DiskFailed tells gives now = Unit {0}
Unread NoMemory tells gives now = Unit {0}
Unread _ tells gives now = ⊥

-- Why no server started on this state, and what a crash may leave.
abbrev pub Unstarted : WorldFault → Type 0 → (List ℕ → Type 0) → Durable → Type 0
Unstarted (Spent n) tells may_leave d = (open_world d ≡ Err n) × (tells → (image : List ℕ) → may_leave image → StandsFor image d)
Unstarted DiskFailed tells may_leave d = Unit {0}
Unstarted NoMemory tells may_leave d = Unit {0}
Unstarted _ tells may_leave d = ⊥

abbrev pub IsOfDisk : WorldFault → Type 0
IsOfDisk DiskFailed = Unit {0}
IsOfDisk NoMemory = Unit {0}
IsOfDisk _ = ⊥

-- The clerk's session ended, with a record; or it had none that was open, and nothing changed.
abbrev pub EndsBy : Option Record → Serving → Server → Server → List Record → List Record → Type 0
EndsBy None done old new before now = (new ≡ old) × (now ≡ before)
EndsBy (Some r) done old new before now = (new ≡ done.server) × (now ≡ before ++ r ∷ [])

abbrev pub EndsOne : ℕ → Server → Server → List Record → List Record → Type 0
EndsOne c old new before now = EndsBy (machine.end c old).rec (machine.end c old) old new before now

-- The server is that of a start that spends nothing, and its record is the first one.
pub record Starts (done : Serving) (server : Server) (records : List Record) : Type 0 where
  pub unspent : done.spent ≡ None
  pub server_is : server ≡ done.server
  pub records_are : records ≡ record_of.Epoch done.server.durable.epoch ∷ []

-- why a store isn't opened
abbrev pub opening_fault : StoreFault → WorldFault
opening_fault (store.BadDisk place) = BadDisk place
opening_fault store.DiskFailed = DiskFailed
opening_fault store.DiskStopped = NoMemory
opening_fault (store.Refused f) = NoMemory
opening_fault store.NoMemory = NoMemory

-- What came of a start gives this server and its record.
abbrev pub StartsServer : Came (Code × Served) → Result (Code × Trace Record) WorldFault → Type 0
StartsServer (Done made None) to = ⊥
StartsServer (Done made (Some mark)) to = to ≡ Ok (made.0, mark.records)
StartsServer (Stopped mark) to = to ≡ Err NoMemory
StartsServer came.DiskFailed to = to ≡ Err DiskFailed
StartsServer came.NoMemory to = to ≡ Err NoMemory

abbrev pub KeptBy : Option Mark → List Record → List Record → Type 0
KeptBy None old new = new ≡ old
KeptBy (Some mark) old new = new ≡ mark.records.items

-- What came of an end gives these records.
abbrev pub EndsWith : Came Served → Result (Unit {0}) WorldFault → List Record → List Record → Type 0
EndsWith (Done served mark) to old new = (to ≡ Ok tt) × KeptBy mark old new
EndsWith (Stopped mark) to old new = to ≡ Err NoMemory
EndsWith came.DiskFailed to old new = to ≡ Err DiskFailed
EndsWith came.NoMemory to old new = to ≡ Err NoMemory
