-- What a server's step counts, and which batches it commits.
use Rattle.std.specs.Prelude.{◌≡◌, ◌≤◌, ◌+◌, ℕ, length, Some, ⊤}
use Rattle.ec_base.specs.Tables.{at, keys}
use Rattle.ec_history.specs.History.{Each}
use Rattle.ec_history.specs.declared.shown.Shown.{Shown}
use Rattle.ec_history.specs.declared.shown.Shown.TheVariants.{Durable}
use Rattle.ec_order.specs.Order.{Issued}
use Rattle.ec_wire.specs.declared.msg.Msg.{Msg}
use Rattle.ec_wire.specs.declared.msg.Msg.TheVariants.{Flush}
use Rattle.ec_durable.specs.declared.record.Record.TheVariants.{Batch}
use Rattle.ec_protocol.specs.Server.{take}
use Rattle.ec_protocol.specs.World.{deliver, runs}
use Rattle.ec_protocol.specs.declared.server.Server.{Server}
use Rattle.ec_protocol.specs.declared.world.Sent.{Sent}
use Rattle.ec_protocol.specs.declared.world.World.{World}

-- The last number of a token and the next session rise by no more than the messages that are sent.
abbrev pub CountersRise : Type 0
CountersRise = (c : ℕ) (m : Msg) (v : Server) → ((take c m v).server.number ≤ v.number + length (take c m v).sent) × ((take c m v).server.durable.next_session ≤ v.durable.next_session + length (take c m v).sent)

-- A batch that is committed is that of the message, which is its clerk's.
abbrev pub BatchesAreFlushed : Type 0
BatchesAreFlushed = (c : ℕ) (m : Msg) (v : Server) (a s b : ℕ) (ops : Issued) → (take c m v).rec ≡ Some (Batch a s b ops) → (c ≡ a) × (e : ℕ) × (m ≡ Flush s e b ops)

-- The counters of the server that runs are no higher than these numbers and the messages that were sent.
abbrev pub AreCounted : ℕ → ℕ → World → Type 0
AreCounted n s w = (v : Server) → w.server ≡ Some v → (v.number ≤ n + w.sent) × (v.durable.next_session ≤ s + w.sent)

-- so they stay where a message is delivered, and messages aren't taken back
abbrev pub DeliveriesCount : Type 0
DeliveriesCount = (n s : ℕ) (w : World) (i : ℕ) → AreCounted n s w → AreCounted n s (deliver runs i w).world × (w.sent ≤ (deliver runs i w).world.sent)

-- A line that tells durable operations is of the clerk whose batch the message i is, and names the operations of that batch.
abbrev pub IsFlushed : World → ℕ → Shown → Type 0
IsFlushed w i (Durable c ns) = (x : Sent) × (s b e : ℕ) × (ops : Issued) × (at i w.pool ≡ Some x) × (x.clerk ≡ c) × (x.msg ≡ Flush s e b ops) × (ns ≡ keys ops)
IsFlushed w i _ = ⊤

-- so are all that a delivery shows
abbrev pub DurableLinesAreFlushed : Type 0
DurableLinesAreFlushed = (w : World) (i : ℕ) → Each (IsFlushed w i) (deliver runs i w).shown
