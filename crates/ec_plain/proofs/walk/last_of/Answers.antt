use Rattle.ec_plain.proofs.Paths.{last_get}
use Rattle.ec_plain.proofs.walk.last_of.Goals as goal

pub returns : goal.returns
returns c = last_get c.args.names.now c.index-names-names.result c.index-names-names.result c.requires c.index-names-names.is
