use Rattle.std.proofs.Common.{length}
use Rattle.ec_durable.proofs.well_formed.fits.+has_root.Given as goal

abbrev pub decreases-has_root : goal.decreases-has_root
decreases-has_root l = length l.objects.now
