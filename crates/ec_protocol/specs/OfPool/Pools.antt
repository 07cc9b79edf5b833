-- What contracts see of a pool, and the worlds that have it.
use Rattle.std.specs.Prelude.{◌≡◌, ℕ, ◌≤◌, true, false, List, Some, is_some, IsTrue}
use Rattle.std.specs.Ordering.{nat_cmp}
use Rattle.std.specs.List.Sorted.{IsStrictlySortedBy}
use Rattle.ec_base.specs.Tables.{Table, at, keys}
use Rattle.ec_volume.specs.Update.{member}
use Rattle.ec_wire.specs.Messages.{is_sound}
use Rattle.ec_wire.specs.declared.msg.MsgKind.{MsgKind}
use Rattle.ec_protocol.specs.declared.world.Sent.{Sent}
use Rattle.ec_protocol.specs.declared.world.World.{World}
use Rattle.ec_protocol.specs.World as machine

-- How many messages were sent, and how many of each kind between a clerk and the server; those that are kept, and the pending ones, by number;
-- the clerks whose link is cut.
pub record Pooled : Type 0 where
  pub sent : ℕ
  pub counts : List ((ℕ × MsgKind) × ℕ)
  pub pool : Table Sent
  pub pending : List ℕ
  pub cut : List ℕ

-- the world with this pool
abbrev pub with_pool : Pooled → World → World
with_pool p w = record w { sent = p.sent; counts = p.counts; pool = p.pool; pending = p.pending; cut = p.cut }

-- What holds of every pool: numbers rise, none is above that of the last message sent, each pending message is kept, and each message is sound.
pub record Stands (p : Pooled) : Type 0 where
  pub pool_rises : IsStrictlySortedBy nat_cmp (keys p.pool)
  pub pending_rises : IsStrictlySortedBy nat_cmp p.pending
  pub within : (n : ℕ) → IsTrue (is_some (at n p.pool)) → n ≤ p.sent
  pub kept : (n : ℕ) → IsTrue (member n p.pending) → IsTrue (is_some (at n p.pool))
  pub sound : (n : ℕ) (s : Sent) → at n p.pool ≡ Some s → IsTrue (is_sound s.msg)

-- the message gets pending, if it isn't yet
abbrev pub made_pending : ℕ → World → World
made_pending n w = record w { pending = elim (machine.is_pending n w) [ true ↦ w.pending | false ↦ machine.among n w.pending ] }
