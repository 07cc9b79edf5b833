use Rattle.std.proofs.Common.{◌≡◌, ◌≤◌, length, take}
use Rattle.ec_base.specs.Tables.{keys}
use Rattle.ec_log.specs.OfChains.Slots.{live}
use Rattle.ec_log.proofs.chains.slots.first_numbers.Given as goal

abbrev pub invariant-each : goal.invariant-each
invariant-each l = (l.ops.items ≡ keys (live (take l.op-index l.held))) × (length l.ops.items ≤ l.most)
