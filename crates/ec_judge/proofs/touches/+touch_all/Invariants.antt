use Rattle.std.proofs.Common.{length}
use Rattle.ec_judge.proofs.touches.+touch_all.Given as goal

abbrev pub decreases-touch_all : goal.decreases-touch_all
decreases-touch_all l = length l.objs.now
