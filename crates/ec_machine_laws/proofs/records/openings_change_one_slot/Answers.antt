use Rattle.ec_machine_laws.proofs.Recording.{open-own, open-rest, open-session, open-id}
use Rattle.ec_machine_laws.proofs.records.openings_change_one_slot.Goals as goal

pub returns-clause-own : goal.returns-clause-own
returns-clause-own c = open-own

pub returns-clause-rest : goal.returns-clause-rest
returns-clause-rest c = open-rest

pub returns-clause-session : goal.returns-clause-session
returns-clause-session c = open-session

pub returns-clause-id : goal.returns-clause-id
returns-clause-id c = open-id
