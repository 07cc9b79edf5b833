use Rattle.std.proofs.Common.{length}
use Rattle.ec_pending.proofs.owes.spans.+take_out.Given as goal

abbrev pub decreases-take_out : goal.decreases-take_out
decreases-take_out l = length l.objs.now
