use Rattle.ec_lease_machine.proofs.OfLeaseLaws.Steps.{opening-agrees, step-agrees}
use Rattle.ec_lease_machine.proofs.lease_laws.leases.leases_agree_behind_each_step.Goals as goal

pub returns-clause-opening : goal.returns-clause-opening
returns-clause-opening z = opening-agrees

pub returns-clause-steps : goal.returns-clause-steps
returns-clause-steps z first fate e x h a f = step-agrees first fate x h a e f
