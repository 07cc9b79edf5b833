use Rattle.ec_lease_machine.proofs.OfQueues.Worlds.{queued-hold}
use Rattle.ec_lease_machine.proofs.queues.reached.queued_worlds_hold_all_facts.Goals as goal

pub returns : goal.returns
returns z = queued-hold
