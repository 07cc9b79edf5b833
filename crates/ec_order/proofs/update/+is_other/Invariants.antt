use Rattle.std.proofs.Common.{length}
use Rattle.ec_order.proofs.update.+is_other.Given as goal

abbrev pub decreases-is_other : goal.decreases-is_other
decreases-is_other l = length l.up.now
