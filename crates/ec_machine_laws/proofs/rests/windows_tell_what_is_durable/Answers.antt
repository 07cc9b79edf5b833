use Rattle.ec_machine_laws.proofs.Resting.{issue-tells, pick-tells, kept-tells, commit-tells, commit-needs}
use Rattle.ec_machine_laws.proofs.rests.windows_tell_what_is_durable.Goals as goal

pub returns-clause-issue : goal.returns-clause-issue
returns-clause-issue c = issue-tells

pub returns-clause-pick : goal.returns-clause-pick
returns-clause-pick c = pick-tells

pub returns-clause-kept : goal.returns-clause-kept
returns-clause-kept c = kept-tells

pub returns-clause-commit : goal.returns-clause-commit
returns-clause-commit c = commit-tells

pub returns-clause-needs : goal.returns-clause-needs
returns-clause-needs c = commit-needs
