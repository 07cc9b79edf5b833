use Rattle.ec_machine_laws.proofs.Taken.{counters-rise}
use Rattle.ec_machine_laws.proofs.server_counts.counters_rise_with_messages.Goals as goal

pub returns : goal.returns
returns c = counters-rise
