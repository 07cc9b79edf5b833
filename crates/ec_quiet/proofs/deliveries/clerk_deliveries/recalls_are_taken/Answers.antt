use Rattle.ec_quiet.proofs.OfDeliveries.Keeping.{keeps-go-on}
use Rattle.ec_quiet.proofs.OfDeliveries.Recalling as recalling
use Rattle.ec_quiet.proofs.deliveries.clerk_deliveries.recalls_are_taken.Goals as goal

pub returns-clause-recalls : goal.returns-clause-recalls
returns-clause-recalls z j sc x h r rs bs rest q head may = recalling.recalls-go-on j sc x h r rs bs rest q head (may (recalling.running j sc x h r rs bs rest q head).0 (recalling.running j sc x h r rs bs rest q head).1)

pub returns-clause-keeps : goal.returns-clause-keeps
returns-clause-keeps z j sc x h r b more rest q head may = keeps-go-on j sc x h r b more rest q head (may q.facts.1.clerk q.facts.1.there)
