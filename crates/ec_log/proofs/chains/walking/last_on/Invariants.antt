use Rattle.std.proofs.Common.{◌≤◌, ℕ, T, length, take}
use Rattle.ec_volume.specs.Update.{member, has_operand}
use Rattle.ec_volume.specs.declared.update.Update.{Update}
use Rattle.ec_order.specs.Order.{Holds}
use Rattle.ec_log.specs.OfChains.Slots.{placed}
use Rattle.ec_log.proofs.chains.walking.last_on.Given as goal

abbrev pub invariant-down : goal.invariant-down
invariant-down l = (l.count ≤ length l.chain) × ((n : ℕ) (u : Update) → Holds (placed l.held) n u → T (has_operand l.obj u) → T (member n (take l.count l.chain)))

abbrev pub decreases-down : goal.decreases-down
decreases-down l = l.count
