use Rattle.std.proofs.Common.{length}
use Rattle.ec_order.proofs.needed.needed.+is_on_one.Given as goal

abbrev pub decreases-is_on_one : goal.decreases-is_on_one
decreases-is_on_one l = length l.objs.now
