use Rattle.ec_lawful.proofs.OfClerkSteps.ForCalls.Begin.{begun-calls, begun-turn}
use Rattle.ec_lawful.proofs.OfClerkSteps.ForCalls.Lined.{lined-all, lined-calls}
use Rattle.ec_lawful.proofs.OfClerkSteps.ForCalls.Shown.{waits-stand}
use Rattle.ec_lawful.proofs.clerk_steps.calls.calls_begin.Goals as goal

pub returns-clause-begin : goal.returns-clause-begin
returns-clause-begin z g events c b l cl k run there new bounded q = (begun-calls g events c b l cl k run there new bounded q, begun-turn g events c b l cl k run there new bounded q)

pub returns-clause-waits : goal.returns-clause-waits
returns-clause-waits z g events c n l cl x q = (lined-calls g events c n l cl x q, lined-all g events c n l cl x)

pub returns-clause-stands : goal.returns-clause-stands
returns-clause-stands z g all c b l cl run own = waits-stand g all c b l cl run own
