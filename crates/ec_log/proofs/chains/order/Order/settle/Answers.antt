use Rattle.ec_log.proofs.OfChains.Leaving.{leaves-none, leaves-next}
use Rattle.ec_log.proofs.chains.order.Order.settle.Goals as goal

pub each-init : goal.each-init
each-init c = leaves-none c.args.ops.now c.args.self.now

pub each-preserved : goal.each-preserved
each-preserved c = leaves-next c.args.ops.now c.each.op-index c.op-item.result c.args.self.now c.each.self c.leave.new.self c.each-test.true c.op-item.is c.each.invariant c.leave.ensures
