use Rattle.ec_lease_machine.proofs.OfLeaseLaws.Unheld.{unheld-told}
use Rattle.ec_lease_machine.proofs.lease_laws.leases.unheld_clerks_are_told.Goals as goal

pub returns : goal.returns
returns z g all doubt x st a c s q f = unheld-told g all doubt x st a c s q f
