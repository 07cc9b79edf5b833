-- A record in doubt: where it comes from, and the system of a server that stopped with it.
use Rattle.std.specs.Prelude.{◌≡◌, ℕ, Contains, Option, None, Some, Ok, ⊤}
use Rattle.ec_wire.specs.declared.msg.Msg.{Msg}
use Rattle.ec_wire.specs.declared.msg.Msg.TheVariants.{Hello, Flush, Room}
use Rattle.ec_durable.specs.Durable.{step}
use Rattle.ec_durable.specs.declared.state.Durable.{Durable}
use Rattle.ec_durable.specs.declared.record.Record.{Record}
use Rattle.ec_durable.specs.declared.record.Record.TheVariants.{Batch, Open, End, Ids, Epoch}
use Rattle.ec_protocol.specs.Server.{end, take}
use Rattle.ec_protocol.specs.declared.server.Server.{Server}
use Rattle.ec_coherence.specs.System.{System}
use Rattle.ec_coherence.specs.CommitLaws.{AllAgree}
use Rattle.ec_coherence.specs.StandLaws.{stopped}

-- the message was sent for which the server commits the record; a session may end for any
abbrev pub ComesFrom : System → Record → Type 0
ComesFrom g (Batch c s b ops) = (e : ℕ) × Contains g.pool (c, Flush s e b ops)
ComesFrom g (Open c age s) = Contains g.pool (c, Hello c age)
ComesFrom g (End c s) = ⊤
ComesFrom g (Ids c s got first) = (e ask : ℕ) × Contains g.pool (c, Room s e got ask)
ComesFrom g (Epoch e) = ⊥

abbrev pub ComesFromAny : System → Option Record → Type 0
ComesFromAny g None = ⊤
ComesFromAny g (Some r) = ComesFrom g r

-- so does the record in doubt, if there is one
abbrev pub DoubtAgrees : System → Type 0
DoubtAgrees g = ComesFromAny g g.unshown

-- messages are only added, so that it stays
abbrev pub DoubtsStay : Type 0
DoubtsStay = (g h : System) → h.unshown ≡ g.unshown → ((m : ℕ × Msg) → Contains g.pool m → Contains h.pool m) → DoubtAgrees g → DoubtAgrees h

-- what a server commits for a message that was sent comes from it, and so does what it commits for the administrator
abbrev pub RecordsComeFromMessages : Type 0
RecordsComeFromMessages = (g : System) (v : Server) (c : ℕ) (m : Msg) → Contains g.pool (c, m) → (r : Record) → (take c m v).rec ≡ Some r → ComesFrom g r

abbrev pub RecordsComeFromEnds : Type 0
RecordsComeFromEnds = (g : System) (v : Server) (c : ℕ) (r : Record) → (end c v).rec ≡ Some r → ComesFrom g r

-- the server stopped with a record on the disk that wasn't shown
abbrev pub doubted : System → Record → System
doubted g r = record (stopped g) { unshown = Some r }

abbrev pub DoubtsStand : Type 0
DoubtsStand = (g : System) → AllAgree g → (v : Server) → g.server ≡ Some v → (r : Record) (d : Durable) → step r g.durable ≡ Ok d → ComesFrom g r → AllAgree (doubted g r) × DoubtAgrees (doubted g r)
