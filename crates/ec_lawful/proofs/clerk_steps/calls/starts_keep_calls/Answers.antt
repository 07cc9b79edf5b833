use Rattle.ec_lawful.proofs.OfClerkSteps.ForCalls.Told.{crashed-calls, crashed-rest, told-calls, up-calls, up-rest}
use Rattle.ec_lawful.proofs.clerk_steps.calls.starts_keep_calls.Goals as goal

pub returns-clause-told : goal.returns-clause-told
returns-clause-told z = told-calls

pub returns-clause-crash : goal.returns-clause-crash
returns-clause-crash z g c = (crashed-calls g c, crashed-rest g c)

pub returns-clause-start : goal.returns-clause-start
returns-clause-start z g c b k bs p down events none first durable recalls = (up-calls g c b k bs p down events none first durable, up-rest g c b k bs p down events none first durable recalls)
