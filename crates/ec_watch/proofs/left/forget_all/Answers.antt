use Rattle.ec_watch.specs.Left.{left}
use Rattle.ec_watch.proofs.Remaining.{none-fewer, next-fewer}
use Rattle.ec_watch.proofs.left.forget_all.Goals as goal

pub loop-op-init : goal.loop-op-init
loop-op-init c = (c.requires, none-fewer (left c.args.rising.now))

pub loop-op-preserved : goal.loop-op-preserved
loop-op-preserved c = (c.forget.ensures.sorted, next-fewer c.args.ops.now c.loop-op.op-index c.op-item.result (left c.args.rising.now) (left c.loop-op.rising) (left c.forget.new.rising) c.loop-op-test.true c.op-item.is c.loop-op.invariant.1 c.forget.ensures.left)
