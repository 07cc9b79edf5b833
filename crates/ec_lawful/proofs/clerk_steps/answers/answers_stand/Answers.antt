use Rattle.ec_lawful.proofs.OfClerkSteps.One.{live-answers}
use Rattle.ec_lawful.proofs.OfClerkSteps.Without.{without-answers}
use Rattle.ec_lawful.proofs.clerk_steps.answers.answers_stand.Goals as goal

pub returns-clause-live : goal.returns-clause-live
returns-clause-live z g all zeros c s age k in_it r o n l cl a op call gives suit line settled = live-answers g all zeros c s age k in_it r o n l cl a op gives suit line settled

pub returns-clause-outside : goal.returns-clause-outside
returns-clause-outside z g inv firsts starts zeros c b k ws r at_start out uncut n l cl a op call gives suit line settled =
    without-answers g inv firsts starts zeros c b k ws at_start out n l cl a op gives suit r uncut line settled
