use Rattle.ec_machine_laws.proofs.Beginning.{empty-rest, new-agrees, new-tells}
use Rattle.ec_machine_laws.proofs.pick_example.premises_can_be_met.Goals as goal

pub returns-clause-rest : goal.returns-clause-rest
returns-clause-rest c = empty-rest

pub returns-clause-agrees : goal.returns-clause-agrees
returns-clause-agrees c = new-agrees

pub returns-clause-tells : goal.returns-clause-tells
returns-clause-tells c = new-tells
