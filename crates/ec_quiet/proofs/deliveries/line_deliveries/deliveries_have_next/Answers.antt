use Rattle.ec_quiet.proofs.OfDeliveries.Spending.{deliveries-have-next}
use Rattle.ec_quiet.proofs.deliveries.line_deliveries.deliveries_have_next.Goals as goal

pub returns : goal.returns
returns c = deliveries-have-next
