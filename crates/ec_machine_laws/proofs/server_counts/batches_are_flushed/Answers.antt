use Rattle.ec_machine_laws.proofs.Taken.{batches-flushed}
use Rattle.ec_machine_laws.proofs.server_counts.batches_are_flushed.Goals as goal

pub returns : goal.returns
returns c = batches-flushed
