use Rattle.ec_pending.specs.Pending.{is_asked}
use Rattle.ec_pending.proofs.Walks.{Walked}
use Rattle.ec_pending.proofs.closed.closed.Given as goal

abbrev pub invariant-back : goal.invariant-back
invariant-back l = Walked l.places (is_asked l.asked) l.held l.at l.ops.items l.needed.others l.needed.ranges

abbrev pub decreases-back : goal.decreases-back
decreases-back l = l.at
