use Rattle.std.proofs.Common.{length}
use Rattle.ec_log.proofs.chains.chains.+link.Given as goal

abbrev pub decreases-link : goal.decreases-link
decreases-link l = length l.objs.now
