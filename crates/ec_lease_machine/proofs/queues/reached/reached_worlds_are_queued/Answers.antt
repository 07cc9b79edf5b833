use Rattle.ec_lease_machine.proofs.OfQueues.Worlds.{plain-reached}
use Rattle.ec_lease_machine.proofs.queues.reached.reached_worlds_are_queued.Goals as goal

pub returns : goal.returns
returns z = plain-reached
