use Rattle.ec_complete.proofs.ForLines.Runs.{completes}
use Rattle.ec_complete.proofs.complete.runs_that_settle_are_plain.Goals as goal

pub returns : goal.returns
returns z d formed sixteen gone w sc opened i idle ls fs fit faultless runs settles room = completes d formed sixteen gone w sc opened i idle ls fs fit faultless runs settles room
