use Rattle.std.proofs.Common.{◌-◌, ◌+◌, length}
use Rattle.ec_history.specs.Legal.{IsLegal, from_formatted}
use Rattle.ec_legal.specs.Ahead.{IsAhead}
use Rattle.ec_legal.proofs.Judged.{Judges}
use Rattle.ec_legal.proofs.judging.Trial.judge_rest.Given as goal

abbrev pub invariant-blocks-2 : goal.invariant-blocks-2
invariant-blocks-2 g l = IsAhead l.self.ahead l.shown × Judges l.shown l.self.judging l.self.entries.items l.self.ahead.placed × IsLegal from_formatted l.max_objects l.self.judging

abbrev pub decreases-blocks-2 : goal.decreases-blocks-2
decreases-blocks-2 g l = (length l.shown - l.self.ahead.placed) + (length l.shown - l.self.ahead.followed)
