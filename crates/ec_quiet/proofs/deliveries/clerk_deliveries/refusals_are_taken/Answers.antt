use Rattle.ec_quiet.proofs.OfDeliveries.Refusing.{refuses-go-on}
use Rattle.ec_quiet.proofs.deliveries.clerk_deliveries.refusals_are_taken.Goals as goal

pub returns : goal.returns
returns c j sc again ask live reserved rest q head may = refuses-go-on j sc again ask live reserved rest q head (may q.facts.1.clerk q.facts.1.working.there)
