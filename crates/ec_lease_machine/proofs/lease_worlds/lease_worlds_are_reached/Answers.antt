use Rattle.ec_lease_machine.proofs.OfLeaseWorlds.Reaching.{leases-reach}
use Rattle.ec_lease_machine.proofs.lease_worlds.lease_worlds_are_reached.Goals as goal

pub returns : goal.returns
returns z d wf sixteen zero x r = leases-reach d wf sixteen zero x r
