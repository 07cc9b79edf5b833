use Rattle.std.proofs.Common.{◌≡◌, take}
use Rattle.ec_watch.specs.Left.{left}
use Rattle.ec_watch.proofs.left.left_of.Given as goal

abbrev pub invariant-loop-op : goal.invariant-loop-op
invariant-loop-op l = l.ops.items ≡ left (take l.op-index l.op-items)
