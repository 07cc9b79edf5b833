use Rattle.ec_quiet.proofs.OfDeliveries.Wanted.{wants-delivered}
use Rattle.ec_quiet.proofs.deliveries.wants.wants_are_delivered.Goals as goal

pub returns : goal.returns
returns c = wants-delivered
