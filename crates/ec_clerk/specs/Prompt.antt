-- Calls that need no more than what is held.
use Rattle.std.specs.Prelude.{◌≡◌, ◌≤◌, ℕ, Bool, true, false, not, ◌&&◌, nat_le, [], length, is_none, Option, None, Some}
use Rattle.ec_base.specs.Limits.{last_counter}
use Rattle.ec_volume.specs.declared.update.Update.{Update}
use Rattle.ec_plain.specs.declared.call.Call.{Call}
use Rattle.ec_plain.specs.declared.call.Outcome.{Outcome}
use Rattle.ec_log.specs.Log as logs
use Rattle.ec_log.specs.declared.state.Asked.{Asked}
use Rattle.ec_protocol.specs.declared.clerk.Clerk.{Clerk}
use Rattle.ec_protocol.specs.Clerk as machine

-- nothing waits, a call's number is left, and no token is too many
pub record IsIdle (k : Clerk) : Type 0 where
  pub calls : nat_le last_counter k.calls ≡ false
  pub waiting : k.waiting ≡ []
  pub recalls : k.recalls ≡ []
  pub pushes : k.pushes ≡ []
  pub tokens : length k.cache.held ≤ k.cache.capacity

-- nothing that it would wait for is undurable
abbrev pub is_durable : Option Asked → Clerk → Bool
is_durable None k = true
is_durable (Some a) k = is_none (logs.first a k.log)

-- the update can be issued: fewer than so many operations are undurable; a call without one waits for none
abbrev pub may_end : Call → Outcome → Option Update → Clerk → Bool
may_end c o None k = is_durable (machine.awaited c o) k
may_end c o (Some u) k = machine.suits u k.cache && not (logs.is_full k.log) && not (logs.ops_are_spent k.log)

-- the number of its operation
abbrev pub op_of : Option Update → Clerk → Option ℕ
op_of None k = None
op_of (Some u) k = Some k.log.next
