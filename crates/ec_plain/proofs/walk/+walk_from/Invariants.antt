use Rattle.std.proofs.Common.{length}
use Rattle.ec_plain.proofs.walk.+walk_from.Given as goal

abbrev pub decreases-walk_from : goal.decreases-walk_from
decreases-walk_from g l = length l.names.now
