use Rattle.ec_machine_laws.proofs.Sending.{picked-sends}
use Rattle.ec_machine_laws.proofs.Logging.{issue-batch, pick-batch, kept-batch}
use Rattle.ec_machine_laws.proofs.logs.batches_stay_the_same.Goals as goal

pub returns-clause-issue : goal.returns-clause-issue
returns-clause-issue c = issue-batch

pub returns-clause-pick : goal.returns-clause-pick
returns-clause-pick c = pick-batch

pub returns-clause-kept : goal.returns-clause-kept
returns-clause-kept c = kept-batch

pub returns-clause-new : goal.returns-clause-new
returns-clause-new c = picked-sends
