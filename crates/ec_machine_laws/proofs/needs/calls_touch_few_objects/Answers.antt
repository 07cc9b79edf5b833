use Rattle.ec_machine_laws.proofs.Few.{walks-few, calls-few}
use Rattle.ec_machine_laws.proofs.needs.calls_touch_few_objects.Goals as goal

pub returns-clause-walk : goal.returns-clause-walk
returns-clause-walk c = walks-few

pub returns-clause-call : goal.returns-clause-call
returns-clause-call c = calls-few
