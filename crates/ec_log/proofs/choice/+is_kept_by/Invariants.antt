use Rattle.std.proofs.Common.{length}
use Rattle.ec_log.proofs.choice.+is_kept_by.Given as goal

abbrev pub decreases-is_kept_by : goal.decreases-is_kept_by
decreases-is_kept_by l = length l.batches.now
