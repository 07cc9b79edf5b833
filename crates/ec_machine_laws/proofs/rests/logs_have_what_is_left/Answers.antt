use Rattle.ec_machine_laws.proofs.Resting.{issue-rest, kept-rest, end-rest}
use Rattle.ec_machine_laws.proofs.rests.logs_have_what_is_left.Goals as goal

pub returns-clause-issue : goal.returns-clause-issue
returns-clause-issue c = issue-rest

pub returns-clause-kept : goal.returns-clause-kept
returns-clause-kept c = kept-rest

pub returns-clause-end : goal.returns-clause-end
returns-clause-end c = end-rest
