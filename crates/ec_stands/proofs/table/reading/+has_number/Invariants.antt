use Rattle.std.proofs.Common.{length}
use Rattle.ec_stands.proofs.table.reading.+has_number.Given as goal

abbrev pub decreases-has_number : goal.decreases-has_number
decreases-has_number l = length l.places.now
