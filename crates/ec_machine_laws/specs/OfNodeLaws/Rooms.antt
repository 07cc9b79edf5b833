-- A refusal of room tells two numbers: how many objects live, and how many ids are reserved. The server counts them, and the clerk's answers have them from the
-- message alone.
use Rattle.std.specs.Prelude.{◌≡◌, ◌≤◌, ◌+◌, ℕ, Option, Some, None, ⊤}
use Rattle.ec_history.specs.History.{Each}
use Rattle.ec_history.specs.declared.entry.Answer.TheVariants as answer
use Rattle.ec_wire.specs.declared.msg.Msg.{Msg}
use Rattle.ec_wire.specs.declared.msg.Msg.TheVariants.{NoRoom}
use Rattle.ec_durable.specs.Durable as durable
use Rattle.ec_durable.specs.WellFormed.{IsInOrder}
use Rattle.ec_durable.specs.declared.state.Durable.{Durable}
use Rattle.ec_protocol.specs.Clerk as clerk
use Rattle.ec_protocol.specs.Server as server
use Rattle.ec_protocol.specs.declared.clerk.Clerk.{Clerk}
use Rattle.ec_protocol.specs.declared.server.Server.{Server}
use Rattle.ec_protocol.specs.declared.clerk.Out.{Out}
use Rattle.ec_protocol.specs.declared.clerk.Out.TheVariants as out

-- The message refuses no room, or tells the counts of this state, which are together within its number of objects.
abbrev pub TellsCounts : Durable → Msg → Type 0
TellsCounts d (NoRoom s e ask live reserved) = (live ≡ durable.live d) × (reserved ≡ durable.reserved d) × (live + reserved ≤ d.max_objects)
TellsCounts d _ = ⊤

abbrev pub RefusesNone : Msg → Type 0
RefusesNone (NoRoom s e ask live reserved) = ⊥
RefusesNone _ = ⊤

-- the two numbers of a refusal
abbrev pub counts_in : Msg → Option (ℕ × ℕ)
counts_in (NoRoom s e ask live reserved) = Some (live, reserved)
counts_in _ = None

-- What comes out of a clerk that was told these numbers, or none: it sends no refusal, and answers `NoRoom` with these alone.
abbrev pub PassesOn : Option (ℕ × ℕ) → Out → Type 0
PassesOn counts (out.Send m) = RefusesNone m
PassesOn counts (out.Answer n (answer.NoRoom live reserved) op) = counts ≡ Some (live, reserved)
PassesOn counts _ = ⊤

-- A server over a state in order refuses room only with that state's counts.
abbrev pub RefusalsTellCounts : Type 0
RefusalsTellCounts = (c : ℕ) (m : Msg) (v : Server) → IsInOrder v.durable → Each (λ (s : ℕ × Msg). TellsCounts v.durable s.1) (server.take c m v).sent

-- A clerk passes on what the message tells that it takes.
abbrev pub AnswersTellCounts : Type 0
AnswersTellCounts = (m : Msg) (k : Clerk) → Each (PassesOn (counts_in m)) (clerk.take m k).outs
