use Rattle.ec_lawful.proofs.OfClerkSteps.ForCalls.Follows.{follows}
use Rattle.ec_lawful.proofs.OfClerkSteps.ForCalls.Sessionless.{outside-shows-none}
use Rattle.ec_lawful.proofs.clerk_steps.calls.answers_may_follow.Goals as goal

pub returns-clause-line : goal.returns-clause-line
returns-clause-line z g all q c b k w l at a op none = follows g all q c b w.no l w.call k at.running at.stands at.line a op none

pub returns-clause-outside : goal.returns-clause-outside
returns-clause-outside z = outside-shows-none
