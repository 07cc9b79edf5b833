use Rattle.ec_machine_laws.proofs.OfAppliedOnce.Once.{once, again, past}
use Rattle.ec_machine_laws.proofs.applied_once.batches_are_applied_once.Goals as goal

pub returns-clause-once : goal.returns-clause-once
returns-clause-once c = once

pub returns-clause-again : goal.returns-clause-again
returns-clause-again c = again

pub returns-clause-past : goal.returns-clause-past
returns-clause-past c = past
