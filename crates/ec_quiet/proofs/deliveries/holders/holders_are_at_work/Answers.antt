use Rattle.ec_quiet.proofs.OfDeliveries.Backed.{holders-work}
use Rattle.ec_quiet.proofs.deliveries.holders.holders_are_at_work.Goals as goal

pub returns : goal.returns
returns c = holders-work
