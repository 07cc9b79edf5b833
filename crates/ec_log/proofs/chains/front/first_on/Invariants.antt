use Rattle.std.proofs.Common.{T, ℕ, drop}
use Rattle.ec_volume.specs.Update.{member, has_operand}
use Rattle.ec_volume.specs.declared.update.Update.{Update}
use Rattle.ec_order.specs.Order.{Holds}
use Rattle.ec_log.specs.OfChains.Slots.{placed}
use Rattle.ec_log.proofs.chains.front.first_on.Given as goal

abbrev pub invariant-each : goal.invariant-each
invariant-each l = (n : ℕ) (u : Update) → Holds (placed l.held) n u → T (has_operand l.obj u) → T (member n (drop l.op-index l.chain))
