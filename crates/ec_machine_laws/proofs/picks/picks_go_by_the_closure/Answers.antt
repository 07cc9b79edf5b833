use Rattle.ec_machine_laws.proofs.Picking.{pick-says, closure-left}
use Rattle.ec_machine_laws.proofs.picks.picks_go_by_the_closure.Goals as goal

pub returns-clause-says : goal.returns-clause-says
returns-clause-says c = pick-says

pub returns-clause-whole : goal.returns-clause-whole
returns-clause-whole c = closure-left
