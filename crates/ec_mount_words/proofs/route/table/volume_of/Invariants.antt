use Rattle.ec_mount_words.proofs.OfRoute.Nearest.{IsNearest}
use Rattle.ec_mount_words.proofs.route.table.volume_of.Given as goal

abbrev pub invariant-table : goal.invariant-table
invariant-table l = IsNearest l.table l.path l.place l.found l.reach
