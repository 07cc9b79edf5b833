use Rattle.std.proofs.Common.{length}
use Rattle.ec_order.proofs.update.+touches_other.Given as goal

abbrev pub decreases-touches_other : goal.decreases-touches_other
decreases-touches_other l = length l.up.now
