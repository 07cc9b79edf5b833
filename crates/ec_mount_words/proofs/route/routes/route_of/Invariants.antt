use Rattle.ec_mount_words.specs.OfRoute.Calls.{paths_of}
use Rattle.ec_mount_words.proofs.OfRoute.SoFar.{AreSeen}
use Rattle.ec_mount_words.proofs.route.routes.route_of.Given as goal

abbrev pub invariant-paths : goal.invariant-paths
invariant-paths l = AreSeen l.table (paths_of l.call) l.i l.to l.crosses
