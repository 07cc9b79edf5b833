use Rattle.ec_quiet.proofs.OfDeliveries.Batched.{batches-of-phases, lines-of-phases}
use Rattle.ec_quiet.proofs.deliveries.batches.batches_are_of_phases.Goals as goal

pub returns-clause-batches : goal.returns-clause-batches
returns-clause-batches c = batches-of-phases

pub returns-clause-lines : goal.returns-clause-lines
returns-clause-lines c = lines-of-phases
