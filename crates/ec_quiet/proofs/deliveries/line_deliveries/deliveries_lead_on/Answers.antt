use Rattle.ec_quiet.proofs.OfDeliveries.Led.{deliveries-lead-on}
use Rattle.ec_quiet.proofs.deliveries.line_deliveries.deliveries_lead_on.Goals as goal

pub returns : goal.returns
returns c = deliveries-lead-on
