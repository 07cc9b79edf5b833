use Rattle.std.proofs.Common.{length}
use Rattle.ec_volume.proofs.update.+meets.Given as goal

abbrev pub decreases-meets : goal.decreases-meets
decreases-meets l = length l.ids.now
