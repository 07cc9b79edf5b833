use Rattle.ec_machine_laws.proofs.Closing.{set-grows, list-grows, front-grows}
use Rattle.ec_machine_laws.proofs.closures.closures_grow_with_the_list.Goals as goal

pub returns-clause-set : goal.returns-clause-set
returns-clause-set c = set-grows

pub returns-clause-list : goal.returns-clause-list
returns-clause-list c = list-grows

pub returns-clause-front : goal.returns-clause-front
returns-clause-front c = front-grows
