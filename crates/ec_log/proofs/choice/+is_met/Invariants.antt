use Rattle.std.proofs.Common.{length}
use Rattle.ec_log.proofs.choice.+is_met.Given as goal

abbrev pub decreases-is_met : goal.decreases-is_met
decreases-is_met l = length l.members.now
