use Rattle.ec_quiet.proofs.OfDeliveries.ServerDelivered.{deliveries-go-on}
use Rattle.ec_quiet.proofs.deliveries.phases.deliveries_go_on.Goals as goal

pub returns : goal.returns
returns c = deliveries-go-on
