use Rattle.ec_machine_laws.proofs.Closing.{rest-within, batch-within}
use Rattle.ec_machine_laws.proofs.closures.closures_among_the_undurable_are_within.Goals as goal

pub returns-clause-closure : goal.returns-clause-closure
returns-clause-closure c = rest-within

pub returns-clause-batch : goal.returns-clause-batch
returns-clause-batch c = batch-within
