use Rattle.ec_quiet.proofs.OfDeliveries.ClerkDelivered.{all-go-on}
use Rattle.ec_quiet.proofs.deliveries.clerk_deliveries.clerks_go_on.Goals as goal

pub returns : goal.returns
returns c j sc p m rest q side may head = all-go-on j sc m rest side head p q may
