use Rattle.std.proofs.Common.{◌≡◌, ◌++◌, drop}
use Rattle.ec_log.proofs.Members.{found}
use Rattle.ec_log.proofs.choice.those_in.Given as goal

abbrev pub invariant-members : goal.invariant-members
invariant-members l = l.found.items ++ found (drop l.op-index l.members) l.undurable ≡ found l.members l.undurable
