use Rattle.std.proofs.Common.{take}
use Rattle.ec_order.proofs.OfNumbers.Least.{IsUnder}
use Rattle.ec_order.proofs.numbers.numbers.least_of.Given as goal

abbrev pub invariant-loop-op : goal.invariant-loop-op
invariant-loop-op l = IsUnder l.least (take l.op-index l.ops)
