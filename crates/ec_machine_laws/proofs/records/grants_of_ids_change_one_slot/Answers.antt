use Rattle.ec_machine_laws.proofs.Recording.{ids-own, ids-rest, ids-session, ids-id}
use Rattle.ec_machine_laws.proofs.records.grants_of_ids_change_one_slot.Goals as goal

pub returns-clause-own : goal.returns-clause-own
returns-clause-own c = ids-own

pub returns-clause-rest : goal.returns-clause-rest
returns-clause-rest c = ids-rest

pub returns-clause-session : goal.returns-clause-session
returns-clause-session c = ids-session

pub returns-clause-id : goal.returns-clause-id
returns-clause-id c = ids-id
