use Rattle.ec_quiet.proofs.OfDeliveries.IdsTaken.{gives-go-on}
use Rattle.ec_quiet.proofs.deliveries.clerk_deliveries.ids_are_taken.Goals as goal

pub returns : goal.returns
returns c j sc got n first rest q head out countable may = gives-go-on j sc got n first rest q head out countable (may q.facts.3.clerk q.facts.3.working.there)
