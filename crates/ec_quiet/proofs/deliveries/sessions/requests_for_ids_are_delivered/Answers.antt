use Rattle.ec_quiet.proofs.OfDeliveries.IdsGiven.{ids-answered}
use Rattle.ec_quiet.proofs.deliveries.sessions.requests_for_ids_are_delivered.Goals as goal

pub returns : goal.returns
returns c = ids-answered
