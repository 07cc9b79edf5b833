use Rattle.ec_cache.proofs.Changing.{rest_moving}
use Rattle.ec_cache.proofs.tokens.change_moving.Goals as goal

pub change_rest-requires-clause-spare : goal.change_rest-requires-clause-spare
change_rest-requires-clause-spare c = rest_moving c.args.update.now c.args.ids.now c.requires.sound c.requires.moves c.requires.operands
