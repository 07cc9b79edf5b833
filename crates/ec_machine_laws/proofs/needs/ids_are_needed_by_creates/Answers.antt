use Rattle.ec_machine_laws.proofs.Needing.{ids-creates, ids-none, makes-own}
use Rattle.ec_machine_laws.proofs.needs.ids_are_needed_by_creates.Goals as goal

pub returns-clause-need : goal.returns-clause-need
returns-clause-need c = ids-creates

pub returns-clause-none : goal.returns-clause-none
returns-clause-none c = ids-none

pub returns-clause-makes : goal.returns-clause-makes
returns-clause-makes c = makes-own
