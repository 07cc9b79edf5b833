use Rattle.ec_machine_laws.proofs.Closing.{full-or-whole}
use Rattle.ec_machine_laws.proofs.closures.full_batches_or_whole_closures.Goals as goal

pub returns : goal.returns
returns c = full-or-whole
