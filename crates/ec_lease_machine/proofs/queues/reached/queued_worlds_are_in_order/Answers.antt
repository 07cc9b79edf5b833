use Rattle.ec_lease_machine.proofs.OfQueues.Worlds.{queued-in-order}
use Rattle.ec_lease_machine.proofs.queues.reached.queued_worlds_are_in_order.Goals as goal

pub returns : goal.returns
returns z = queued-in-order
