use Rattle.std.proofs.Common.{◌≤◌, length}
use Rattle.ec_history.specs.History.{of_start, is_one_of}
use Rattle.ec_judge.proofs.Outsides.{Closing}
use Rattle.ec_judge.proofs.losses.are_closed.Given as goal

abbrev pub invariant-back : goal.invariant-back
invariant-back l = Closing (is_one_of l.named.clerk l.named.boot l.named.ops.now) (of_start l.named.clerk l.named.boot) l.kept l.at l.outside.objs l.outside.others × (l.at ≤ length l.kept)

abbrev pub decreases-back : goal.decreases-back
decreases-back l = l.at
