use Rattle.ec_machine_laws.proofs.Recording.{batch-own, batch-rest, batch-session, batch-id}
use Rattle.ec_machine_laws.proofs.records.batches_change_one_slot.Goals as goal

pub returns-clause-own : goal.returns-clause-own
returns-clause-own c = batch-own

pub returns-clause-rest : goal.returns-clause-rest
returns-clause-rest c = batch-rest

pub returns-clause-session : goal.returns-clause-session
returns-clause-session c = batch-session

pub returns-clause-id : goal.returns-clause-id
returns-clause-id c = batch-id
