use Rattle.std.proofs.Common.{length}
use Rattle.ec_volume.proofs.update.+member_ids.Given as goal

abbrev pub decreases-member_ids : goal.decreases-member_ids
decreases-member_ids l = length l.up.now
