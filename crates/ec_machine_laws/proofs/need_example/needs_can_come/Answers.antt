use Rattle.std.proofs.Common.{refl}
use Rattle.ec_machine_laws.proofs.need_example.needs_can_come.Goals as goal

pub returns-clause-read : goal.returns-clause-read
returns-clause-read c = refl

pub returns-clause-write : goal.returns-clause-write
returns-clause-write c = refl

pub returns-clause-ids : goal.returns-clause-ids
returns-clause-ids c = refl

pub returns-clause-most : goal.returns-clause-most
returns-clause-most c = refl

pub returns-clause-shows : goal.returns-clause-shows
returns-clause-shows c = record { images = λ x t. refl; unmade = λ x t. refl }
