use Rattle.ec_sessions.specs.IdLaws.{one_spent}
use Rattle.ec_sessions.proofs.laws.one_spent.Goals as goal

pub returns : goal.returns
returns c = one_spent
