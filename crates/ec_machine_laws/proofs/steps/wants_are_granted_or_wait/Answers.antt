use Rattle.ec_machine_laws.proofs.Stepping.{want-granted, want-waits}
use Rattle.ec_machine_laws.proofs.steps.wants_are_granted_or_wait.Goals as goal

pub returns-clause-granted : goal.returns-clause-granted
returns-clause-granted c = want-granted

pub returns-clause-waits : goal.returns-clause-waits
returns-clause-waits c = want-waits
