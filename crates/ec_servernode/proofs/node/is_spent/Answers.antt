use Rattle.ec_servernode.proofs.Ends.{not_spent}
use Rattle.ec_servernode.proofs.node.is_spent.Goals as goal

pub returns-in_default : goal.returns-in_default
returns-in_default c = not_spent c.args.halt c.in_default.not-Spent
