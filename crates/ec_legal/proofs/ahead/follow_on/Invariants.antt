use Rattle.std.proofs.Common.{◌≤◌, ◌-◌, length, take}
use Rattle.ec_lines.specs.Following.{Follows}
use Rattle.ec_legal.proofs.ahead.follow_on.Given as goal

abbrev pub invariant-blocks-2 : goal.invariant-blocks-2
invariant-blocks-2 l = Follows l.following (take l.at l.shown) × (l.from ≤ l.at) × (l.at ≤ length l.shown)

abbrev pub decreases-blocks-2 : goal.decreases-blocks-2
decreases-blocks-2 l = length l.shown - l.at
