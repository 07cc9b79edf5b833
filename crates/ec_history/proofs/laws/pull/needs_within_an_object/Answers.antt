use Rattle.ec_history.proofs.OfLaws.ForPlacing.Pulled.{needs-common, needs-strangers}
use Rattle.ec_history.proofs.laws.pull.needs_within_an_object.Goals as goal

pub returns-clause-common : goal.returns-clause-common
returns-clause-common c = needs-common

pub returns-clause-strangers : goal.returns-clause-strangers
returns-clause-strangers c = needs-strangers
