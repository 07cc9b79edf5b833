use Rattle.ec_lawful.proofs.OfClerkSteps.ForDoings.Calling.{all-again, byes, flushes}
use Rattle.ec_lawful.proofs.OfClerkSteps.ForDoings.Spent.{spent-stays}
use Rattle.ec_lawful.proofs.clerk_steps.doings.clerks_may_call.Goals as goal

pub returns-clause-calls : goal.returns-clause-calls
returns-clause-calls z g all o n c b s k runs there session = (flushes g all o n c b s k runs there session, byes g all o n c b s k runs there session, all-again g all o n c b s k runs there session)

pub returns-clause-spent : goal.returns-clause-spent
returns-clause-spent z = spent-stays
