use Rattle.std.proofs.Common.{◌∙◌}
use Rattle.ec_pending.proofs.Holding.{has-is}
use Rattle.ec_pending.proofs.pending.Pending.has.Goals as goal

pub returns : goal.returns
returns c = c.is_some.ensures ∙ has-is c.args.op c.self.inside.count c.self.inside.places c.self.inside.order c.args.self.now c.get.result c.self.view_is c.get.ensures.value
