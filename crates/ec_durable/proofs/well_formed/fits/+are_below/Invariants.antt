use Rattle.std.proofs.Common.{length}
use Rattle.ec_durable.proofs.well_formed.fits.+are_below.Given as goal

abbrev pub decreases-are_below : goal.decreases-are_below
decreases-are_below l = length l.numbers.now
