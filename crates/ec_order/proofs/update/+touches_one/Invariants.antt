use Rattle.std.proofs.Common.{length}
use Rattle.ec_order.proofs.update.+touches_one.Given as goal

abbrev pub decreases-touches_one : goal.decreases-touches_one
decreases-touches_one l = length l.objs.now
