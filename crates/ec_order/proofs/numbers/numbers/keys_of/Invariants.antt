use Rattle.std.proofs.Common.{take}
use Rattle.std.specs.BTreeSet.{contains}
use Rattle.std.specs.Ordering.{nat_cmp}
use Rattle.ec_order.specs.OfNumbers.Numbers.{IsIndex}
use Rattle.ec_order.proofs.numbers.numbers.keys_of.Given as goal

abbrev pub invariant-loop-op : goal.invariant-loop-op
invariant-loop-op l = IsIndex (contains nat_cmp l.known) (take l.op-index l.items)
