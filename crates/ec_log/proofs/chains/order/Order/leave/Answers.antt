use Rattle.ec_log.proofs.OfChains.Leaving.{order-left}
use Rattle.ec_log.proofs.chains.order.Order.leave.Goals as goal

pub invariant_of-self : goal.invariant_of-self
invariant_of-self c = order-left c.args.op c.self.inside.held c.take-left.new.self c.self.inside.shared c.self.inside.chains c.unlink.new.chains c.self.invariant c.take-left.ensures.rest c.unlink.ensures
