use Rattle.ec_order.proofs.OfNeeded.Maps.{taken}
use Rattle.ec_order.proofs.needed.needed.take_ranges.Goals as goal

pub returns-in-Some-clause-others : goal.returns-in-Some-clause-others
returns-in-Some-clause-others c = taken c.args.obj c.of.result c.in-Some.items c.args.ranges.now c.replace.new.self c.replace.result c.in-Some.is c.replace.ensures.some
