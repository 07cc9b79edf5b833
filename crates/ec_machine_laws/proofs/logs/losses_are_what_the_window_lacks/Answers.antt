use Rattle.ec_machine_laws.proofs.Losing.{lost-in_none, lost-or_in, lost-issued}
use Rattle.ec_machine_laws.proofs.logs.losses_are_what_the_window_lacks.Goals as goal

pub returns-clause-none : goal.returns-clause-none
returns-clause-none c = lost-in_none

pub returns-clause-others : goal.returns-clause-others
returns-clause-others c = lost-or_in

pub returns-clause-undurable : goal.returns-clause-undurable
returns-clause-undurable c = lost-issued
