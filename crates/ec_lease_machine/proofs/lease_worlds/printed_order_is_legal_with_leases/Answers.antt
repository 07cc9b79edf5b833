use Rattle.ec_lease_machine.proofs.OfLeaseWorlds.Reaching.{leases-printed}
use Rattle.ec_lease_machine.proofs.lease_worlds.printed_order_is_legal_with_leases.Goals as goal

pub returns : goal.returns
returns z d wf sixteen zero x r = leases-printed d wf sixteen zero x r
