use Rattle.ec_machine_laws.proofs.Wanting.{serving-ends, serving-again}
use Rattle.ec_machine_laws.proofs.rounds.serving_ends_with_nothing_due.Goals as goal

pub returns-clause-due : goal.returns-clause-due
returns-clause-due c = serving-ends

pub returns-clause-again : goal.returns-clause-again
returns-clause-again c = serving-again
