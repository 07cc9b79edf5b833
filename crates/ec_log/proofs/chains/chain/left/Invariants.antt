use Rattle.std.proofs.Common.{◌≤◌, ◌-◌, ℕ, T, length, drop}
use Rattle.ec_volume.specs.Update.{member}
use Rattle.ec_volume.specs.declared.update.Update.{Update}
use Rattle.ec_order.specs.Order.{Holds}
use Rattle.ec_log.proofs.chains.chain.left.Given as goal

abbrev pub invariant-left : goal.invariant-left
invariant-left l = (l.count ≤ length l.chain) × ((n : ℕ) (u : Update) → Holds l.held n u → T (member n l.chain) → T (member n (drop l.count l.chain)))

abbrev pub decreases-left : goal.decreases-left
decreases-left l = length l.chain - l.count
