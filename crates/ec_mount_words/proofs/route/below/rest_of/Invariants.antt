use Rattle.std.proofs.Common.{◌≡◌, take}
use Rattle.ec_mount_words.proofs.route.below.rest_of.Given as goal

abbrev pub invariant-last : goal.invariant-last
invariant-last l = l.rest.items ≡ take l.name-index l.last
