use Rattle.ec_lease_machine.proofs.OfLeaseWorlds.Runs.{runs-leased}
use Rattle.ec_lease_machine.proofs.lease_worlds.lease_runs_are_legal_in_printed_order.Goals as goal

pub returns : goal.returns
returns z d wf sixteen unmade w q l e ls fs fit = runs-leased d wf sixteen unmade ls w q l e fs fit
