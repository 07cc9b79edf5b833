use Rattle.std.proofs.Common.{length}
use Rattle.ec_log.proofs.choice.+first_met.Given as goal

abbrev pub decreases-first_met : goal.decreases-first_met
decreases-first_met l = length l.batches.now
