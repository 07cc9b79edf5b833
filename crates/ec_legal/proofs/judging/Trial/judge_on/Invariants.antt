use Rattle.std.proofs.Common.{◌-◌, ◌+◌, length}
use Rattle.ec_legal.specs.Tried.{IsTried}
use Rattle.ec_legal.proofs.judging.Trial.judge_on.Given as goal

abbrev pub invariant-blocks-2 : goal.invariant-blocks-2
invariant-blocks-2 g l = IsTried l.max_objects l.self l.shown

abbrev pub decreases-blocks-2 : goal.decreases-blocks-2
decreases-blocks-2 g l = (length l.shown - l.self.ahead.placed) + (length l.shown - l.self.ahead.followed)
