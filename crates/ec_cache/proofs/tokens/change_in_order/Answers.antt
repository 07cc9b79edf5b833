use Rattle.ec_cache.proofs.Changing.{rest_in_order}
use Rattle.ec_cache.proofs.tokens.change_in_order.Goals as goal

pub change_rest-requires-clause-spare : goal.change_rest-requires-clause-spare
change_rest-requires-clause-spare c = rest_in_order c.args.update.now c.args.ids.now c.requires.sound c.requires.stays c.requires.operands
