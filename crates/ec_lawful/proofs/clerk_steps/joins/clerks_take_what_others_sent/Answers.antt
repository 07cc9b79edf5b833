use Rattle.ec_lawful.proofs.OfClerkSteps.ForJoins.Wholes.{begins, takes-others, takes-outside}
use Rattle.ec_lawful.proofs.clerk_steps.joins.clerks_take_what_others_sent.Goals as goal

pub returns-clause-begin : goal.returns-clause-begin
returns-clause-begin z = begins

pub returns-clause-outside : goal.returns-clause-outside
returns-clause-outside z = takes-outside

pub returns-clause-others : goal.returns-clause-others
returns-clause-others z g all cuts c b s k runs at-start within m p n = takes-others g all cuts c b k runs at-start s within m p n
