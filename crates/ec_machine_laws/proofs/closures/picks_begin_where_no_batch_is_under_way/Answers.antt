use Rattle.ec_machine_laws.proofs.Closing.{begins}
use Rattle.ec_machine_laws.proofs.closures.picks_begin_where_no_batch_is_under_way.Goals as goal

pub returns : goal.returns
returns c = begins
