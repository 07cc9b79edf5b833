use Rattle.std.proofs.Common.{length}
use Rattle.ec_log.proofs.chains.walking.+await_all.Given as goal

abbrev pub decreases-await_all : goal.decreases-await_all
decreases-await_all l = length l.objs.now
