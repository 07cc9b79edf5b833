use Rattle.ec_machine_laws.proofs.OfAppliedOnce.Steps.{take-safe, end-safe, start-safe}
use Rattle.ec_machine_laws.proofs.applied_once.servers_stay_safe.Goals as goal

pub returns-clause-take : goal.returns-clause-take
returns-clause-take c = take-safe

pub returns-clause-end : goal.returns-clause-end
returns-clause-end c = end-safe

pub returns-clause-start : goal.returns-clause-start
returns-clause-start c = start-safe
