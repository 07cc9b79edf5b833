use Rattle.ec_quiet.proofs.OfDeliveries.Claimed.{claims-delivered}
use Rattle.ec_quiet.proofs.deliveries.claims.claims_are_delivered.Goals as goal

pub returns : goal.returns
returns c = claims-delivered
