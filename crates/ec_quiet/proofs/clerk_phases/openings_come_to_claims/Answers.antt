use Rattle.ec_quiet.proofs.SessionOpens.{opened-comes}
use Rattle.ec_quiet.proofs.clerk_phases.openings_come_to_claims.Goals as goal

pub returns : goal.returns
returns c j sc age rest q head = opened-comes j sc age rest q head
