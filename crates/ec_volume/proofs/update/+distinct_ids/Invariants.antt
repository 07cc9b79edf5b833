use Rattle.std.proofs.Common.{length}
use Rattle.ec_volume.proofs.update.+distinct_ids.Given as goal

abbrev pub decreases-distinct_ids : goal.decreases-distinct_ids
decreases-distinct_ids l = length l.up.now
