use Rattle.ec_machine_laws.proofs.Closing.{asked-closed, some-closed, unsettled}
use Rattle.ec_machine_laws.proofs.closures.what_is_asked_for_is_in_its_closure.Goals as goal

pub returns-clause-asked : goal.returns-clause-asked
returns-clause-asked c = asked-closed

pub returns-clause-some : goal.returns-clause-some
returns-clause-some c = some-closed

pub returns-clause-unsettled : goal.returns-clause-unsettled
returns-clause-unsettled c = unsettled
