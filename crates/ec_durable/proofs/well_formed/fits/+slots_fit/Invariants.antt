use Rattle.std.proofs.Common.{length}
use Rattle.ec_durable.proofs.well_formed.fits.+slots_fit.Given as goal

abbrev pub decreases-slots_fit : goal.decreases-slots_fit
decreases-slots_fit l = length l.slots.now
