use Rattle.std.proofs.Common.{take}
use Rattle.ec_lines.specs.Following.{Follows}
use Rattle.ec_lines.proofs.following.follow.Given as goal

abbrev pub invariant-loop-at : goal.invariant-loop-at
invariant-loop-at l = Follows l.following (take l.at l.shown)
