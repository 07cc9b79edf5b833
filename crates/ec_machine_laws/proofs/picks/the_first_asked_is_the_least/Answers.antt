use Rattle.ec_machine_laws.proofs.Picking.{first-asked, first-least, none-first}
use Rattle.ec_machine_laws.proofs.picks.the_first_asked_is_the_least.Goals as goal

pub returns-clause-asked : goal.returns-clause-asked
returns-clause-asked c = first-asked

pub returns-clause-least : goal.returns-clause-least
returns-clause-least c = first-least

pub returns-clause-none : goal.returns-clause-none
returns-clause-none c = none-first
