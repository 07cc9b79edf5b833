use Rattle.ec_machine_laws.proofs.Wanting.{no-want, none-due, unclaimed}
use Rattle.ec_machine_laws.proofs.rounds.serving_changes_nothing_where_nothing_is_due.Goals as goal

pub returns-clause-no_want : goal.returns-clause-no_want
returns-clause-no_want c = no-want

pub returns-clause-none_due : goal.returns-clause-none_due
returns-clause-none_due c = none-due

pub returns-clause-unclaimed : goal.returns-clause-unclaimed
returns-clause-unclaimed c = unclaimed
