use Rattle.ec_machine_laws.proofs.Stepping.{room-refused, room-granted}
use Rattle.ec_machine_laws.proofs.steps.rooms_are_granted_or_refused.Goals as goal

pub returns-clause-refused : goal.returns-clause-refused
returns-clause-refused c = room-refused

pub returns-clause-granted : goal.returns-clause-granted
returns-clause-granted c = λ c ss e got ask sl s d work none next. room-granted c ss e got ask sl s work none next d
