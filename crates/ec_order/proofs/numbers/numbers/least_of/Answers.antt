use Rattle.ec_order.proofs.OfNumbers.Least.{under-all}
use Rattle.ec_order.proofs.numbers.numbers.least_of.Goals as goal

pub returns : goal.returns
returns c = under-all c.args.ops.now c.loop-op.op-index c.loop-op.least c.loop-op.invariant c.loop-op-test.false
