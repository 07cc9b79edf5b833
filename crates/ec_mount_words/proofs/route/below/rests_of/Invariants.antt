use Rattle.std.proofs.Common.{◌≡◌, take, drop}
use Rattle.std.specs.Prelude.{map}
use Rattle.ec_mount_words.proofs.route.below.rests_of.Given as goal

abbrev pub invariant-paths : goal.invariant-paths
invariant-paths l = l.rests.items ≡ map (drop l.names) (take l.path-index l.paths)
