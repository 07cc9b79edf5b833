use Rattle.std.proofs.Common.{length}
use Rattle.ec_pending.proofs.owes.spans.+reach.Given as goal

abbrev pub decreases-reach : goal.decreases-reach
decreases-reach l = length l.objs.now
