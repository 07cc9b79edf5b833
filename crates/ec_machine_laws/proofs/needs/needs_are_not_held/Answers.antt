use Rattle.ec_machine_laws.proofs.Needing.{needed-unheld, needed-some}
use Rattle.ec_machine_laws.proofs.needs.needs_are_not_held.Goals as goal

pub returns-clause-held : goal.returns-clause-held
returns-clause-held c = needed-unheld

pub returns-clause-free : goal.returns-clause-free
returns-clause-free c = needed-some
