use Rattle.ec_quiet.proofs.OfDeliveries.Pushing.{pushed-goes-on}
use Rattle.ec_quiet.proofs.OfDeliveries.Saving.{saved-goes-on}
use Rattle.ec_quiet.proofs.deliveries.clerk_deliveries.durable_batches_are_taken.Goals as goal

pub returns-clause-calls : goal.returns-clause-calls
returns-clause-calls c j sc b more rest q head may = saved-goes-on j sc b more rest q head (may q.facts.1.clerk q.facts.1.working.there)

pub returns-clause-pushes : goal.returns-clause-pushes
returns-clause-pushes c j sc b more rest q head n is may = pushed-goes-on j sc b more rest q head n is (may q.facts.1.clerk q.facts.1.working.there)
