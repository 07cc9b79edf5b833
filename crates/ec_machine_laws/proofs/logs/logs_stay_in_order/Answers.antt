use Rattle.ec_machine_laws.proofs.Logging.{empty-log, issue-log, pick-log, kept-log, end-log}
use Rattle.ec_machine_laws.proofs.logs.logs_stay_in_order.Goals as goal

pub returns-clause-empty : goal.returns-clause-empty
returns-clause-empty c = empty-log

pub returns-clause-issue : goal.returns-clause-issue
returns-clause-issue c = issue-log

pub returns-clause-pick : goal.returns-clause-pick
returns-clause-pick c = pick-log

pub returns-clause-kept : goal.returns-clause-kept
returns-clause-kept c = kept-log

pub returns-clause-end : goal.returns-clause-end
returns-clause-end c = end-log
