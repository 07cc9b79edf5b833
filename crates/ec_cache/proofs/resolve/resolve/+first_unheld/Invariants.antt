use Rattle.std.proofs.Common.{length}
use Rattle.ec_cache.proofs.resolve.resolve.+first_unheld.Given as goal

-- the objects that are left
abbrev pub decreases-first_unheld : goal.decreases-first_unheld
decreases-first_unheld l = length l.ids.now
