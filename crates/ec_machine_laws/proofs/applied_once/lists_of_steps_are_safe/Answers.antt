use Rattle.ec_machine_laws.proofs.OfAppliedOnce.Steps.{acts-safe, new-safe}
use Rattle.ec_machine_laws.proofs.applied_once.lists_of_steps_are_safe.Goals as goal

pub returns-clause-acts : goal.returns-clause-acts
returns-clause-acts c = acts-safe

pub returns-clause-new : goal.returns-clause-new
returns-clause-new c = new-safe
