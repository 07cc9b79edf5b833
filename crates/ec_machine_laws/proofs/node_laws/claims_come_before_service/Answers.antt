use Rattle.ec_machine_laws.proofs.OfNodeLaws.Claims.{claims-first}
use Rattle.ec_machine_laws.proofs.node_laws.claims_come_before_service.Goals as goal

pub returns : goal.returns
returns c = claims-first
