use Rattle.ec_machine_laws.proofs.Sent.{deliveries-count}
use Rattle.ec_machine_laws.proofs.server_counts.worlds_count_messages.Goals as goal

pub returns : goal.returns
returns c = deliveries-count
