use Rattle.ec_lawful.proofs.OfClerkSteps.ForJoins.Begins.{fresh-stands, start-stands}
use Rattle.ec_lawful.proofs.clerk_steps.joins.clerks_may_start.Goals as goal

pub returns-clause-fresh : goal.returns-clause-fresh
returns-clause-fresh z = fresh-stands

pub returns-clause-shown : goal.returns-clause-shown
returns-clause-shown z = start-stands
