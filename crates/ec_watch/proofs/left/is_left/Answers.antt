use Rattle.ec_watch.proofs.Remaining.{found-left, not-left}
use Rattle.ec_watch.proofs.left.is_left.Goals as goal

pub returns-in-Some : goal.returns-in-Some
returns-in-Some c = found-left c.args.op c.args.rising.now c.in-Some.is_left.now c.requires c.in-Some.ensures

pub returns-in-None : goal.returns-in-None
returns-in-None c = not-left c.args.op c.args.rising.now c.in-None.ensures
