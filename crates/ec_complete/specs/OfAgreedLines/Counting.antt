-- What a clerk counts, and what bounds it, as contracts name it.
use Rattle.std.specs.Prelude.{◌≡◌, ◌≤◌, ◌<◌, ◌+◌, ◌*◌, ℕ, false, nat_le, List, [], ◌∷◌, length, Some}
use Rattle.ec_base.specs.Limits.{last_counter}
use Rattle.ec_base.specs.Tables.{at}
use Rattle.ec_plain.specs.declared.call.Call.{Call}
use Rattle.ec_wire.specs.declared.msg.Msg.{Msg}
use Rattle.ec_protocol.specs.Clerk.{begin, push, take}
use Rattle.ec_protocol.specs.World.{deliver, runs}
use Rattle.ec_protocol.specs.declared.clerk.Clerk.{Clerk}
use Rattle.ec_protocol.specs.declared.clerk.Out.{Out}
use Rattle.ec_protocol.specs.declared.clerk.Out.TheVariants as out
use Rattle.ec_protocol.specs.declared.world.World.{World}

-- how many messages came out
abbrev pub sent_in : List Out → ℕ
sent_in [] = 0
sent_in (out.Send m ∷ os) = sent_in os + 1
sent_in (out.Told ns ∷ os) = sent_in os
sent_in (out.Answer n a op ∷ os) = sent_in os
sent_in (out.OldBoot a ∷ os) = sent_in os

-- The clerk made at most so many calls, and sent at most so many messages. Each call issues an operation at most, and only then it's answered; ids are
-- asked for where none is left, and each operation takes one at most; and an asking for ids, or a batch, is a message.
pub record IsCounted (calls sent : ℕ) (k : Clerk) : Type 0 where
  pub made : k.calls ≤ calls
  pub ops : k.log.next + length k.waiting ≤ k.calls + 1
  pub undurable : length k.log.undurable < k.log.next
  pub ids : 16 * k.got ≤ length k.ids + k.log.next
  pub batch : 1 ≤ k.log.next_batch
  pub sends : k.asks + k.log.next_batch ≤ sent + 1

-- behind a message that it takes
abbrev pub MessagesCount : Type 0
MessagesCount = (calls sent : ℕ) (m : Msg) (k : Clerk) → IsCounted calls sent k → IsCounted calls (sent + sent_in (take m k).outs) (take m k).clerk

-- behind a call that begins
abbrev pub CallsCount : Type 0
CallsCount = (calls sent : ℕ) (cl : Call) (k : Clerk) → IsCounted calls sent k → nat_le last_counter k.calls ≡ false → IsCounted (calls + 1) (sent + sent_in (begin cl k).outs) (begin cl k).clerk

-- and where an operation is pushed
abbrev pub PushesCount : Type 0
PushesCount = (calls sent n : ℕ) (k : Clerk) → IsCounted calls sent k → IsCounted calls (sent + sent_in (push n k).outs) (push n k).clerk

-- each clerk of the world made at most so many calls, and sent at most what was sent
abbrev pub AreCounted : ℕ → World → Type 0
AreCounted calls w = (c : ℕ) (k : Clerk) → at c w.clerks ≡ Some k → IsCounted calls w.sent k

-- so they stay where a message is delivered
abbrev pub DeliveriesCountClerks : Type 0
DeliveriesCountClerks = (calls : ℕ) (w : World) (i : ℕ) → AreCounted calls w → AreCounted calls (deliver runs i w).world
