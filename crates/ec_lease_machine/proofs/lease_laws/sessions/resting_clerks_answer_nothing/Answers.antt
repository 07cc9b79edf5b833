use Rattle.ec_lease_machine.proofs.OfLeaseLaws.Resting.{resting-quiet}
use Rattle.ec_lease_machine.proofs.lease_laws.sessions.resting_clerks_answer_nothing.Goals as goal

pub returns : goal.returns
returns z = resting-quiet
