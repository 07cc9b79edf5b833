-- When a step spends no counter, as contracts name it.
use Rattle.std.specs.Prelude.{◌≡◌, ◌≤◌, ◌<◌, ◌+◌, ℕ, false, nat_le, List, [], ◌∷◌, length, None, ⊤}
use Rattle.ec_base.specs.Limits.{last_counter}
use Rattle.ec_plain.specs.declared.call.Call.{Call}
use Rattle.ec_sessions.specs.Limits.{last_grants}
use Rattle.ec_wire.specs.declared.msg.Msg.{Msg}
use Rattle.ec_wire.specs.declared.msg.Msg.TheVariants as msg
use Rattle.ec_protocol.specs.Clerk as clerk
use Rattle.ec_protocol.specs.Clerk.{Doing, begin}
use Rattle.ec_protocol.specs.Server.{ids_are_spent, serving, take}
use Rattle.ec_protocol.specs.declared.clerk.Clerk.{Clerk}
use Rattle.ec_protocol.specs.declared.clerk.Out.{Out}
use Rattle.ec_protocol.specs.declared.clerk.Out.TheVariants as out
use Rattle.ec_protocol.specs.declared.server.Server.{Server}

-- The server.

-- what a message may be counted by: the next session, or one more grant of ids
abbrev pub MayCount : Msg → Server → Type 0
MayCount (msg.Hello from age) v = nat_le last_counter v.durable.next_session ≡ false
MayCount (msg.Room s e got ask) v = ids_are_spent got (serving v) ≡ false
MayCount _ v = ⊤

-- A server takes a message without spending a counter, where no number of a token that it gives out is the last one.
abbrev pub ServersSpendNothing : Type 0
ServersSpendNothing = (c : ℕ) (m : Msg) (v : Server) → MayCount m v → (take c m v).server.number < last_counter → (take c m v).spent ≡ None

-- A clerk.

-- how many messages these are
abbrev pub sent : List Out → ℕ
sent [] = 0
sent (out.Send m ∷ os) = sent os + 1
sent (out.Told ns ∷ os) = sent os
sent (out.Answer n a op ∷ os) = sent os
sent (out.OldBoot a ∷ os) = sent os

-- The step d of the clerk k, in which n calls begin, leaves its counters below their limits: of each message that it sends and each call that is answered one.
pub record IsLow (n : ℕ) (k : Clerk) (d : Doing) : Type 0 where
  pub messages : k.asks + k.log.next_batch + sent d.outs < last_counter
  pub calls : k.log.next + length k.waiting + n ≤ last_counter

-- no session ends by the message, and no server's restart is told; ids that are given are counted
abbrev pub MayGet : Msg → Type 0
MayGet (msg.Ended s low mask) = ⊥
MayGet (msg.Restarted s e) = ⊥
MayGet (msg.Ids s e got n first) = nat_le last_grants got ≡ false
MayGet _ = ⊤

-- A clerk takes such a message without spending a counter; so it begins a call.
abbrev pub MessagesSpendNothing : Type 0
MessagesSpendNothing = (m : Msg) (k : Clerk) → MayGet m → IsLow 0 k (clerk.take m k) → (clerk.take m k).spent ≡ None

abbrev pub CallsSpendNothing : Type 0
CallsSpendNothing = (cl : Call) (k : Clerk) → nat_le last_counter k.calls ≡ false → IsLow 1 k (begin cl k) → (begin cl k).spent ≡ None
