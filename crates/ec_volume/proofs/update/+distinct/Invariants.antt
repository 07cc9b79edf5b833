use Rattle.std.proofs.Common.{length}
use Rattle.ec_volume.proofs.update.+distinct.Given as goal

abbrev pub decreases-distinct : goal.decreases-distinct
decreases-distinct l = length l.ids.now
