use Rattle.ec_machine_laws.proofs.Stepping.{batch-committed}
use Rattle.ec_machine_laws.proofs.steps.batches_are_committed_and_answered.Goals as goal

pub returns : goal.returns
returns c = batch-committed
