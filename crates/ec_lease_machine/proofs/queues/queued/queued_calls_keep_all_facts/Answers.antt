use Rattle.ec_lease_machine.proofs.OfQueues.QueuedKeep.{queued-keep}
use Rattle.ec_lease_machine.proofs.queues.queued.queued_calls_keep_all_facts.Goals as goal

pub returns : goal.returns
returns z = queued-keep
