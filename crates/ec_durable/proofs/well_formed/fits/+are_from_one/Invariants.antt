use Rattle.std.proofs.Common.{length}
use Rattle.ec_durable.proofs.well_formed.fits.+are_from_one.Given as goal

abbrev pub decreases-are_from_one : goal.decreases-are_from_one
decreases-are_from_one l = length l.numbers.now
