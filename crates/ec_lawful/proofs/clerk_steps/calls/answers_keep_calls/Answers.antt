use Rattle.ec_lawful.proofs.OfClerkSteps.ForCalls.CallsLeft.{left-calls, left-lines}
use Rattle.ec_lawful.proofs.clerk_steps.calls.answers_keep_calls.Goals as goal

pub returns : goal.returns
returns z g old c b k now run there before after w l is x p γ a op shown new left calls first next own within turn q = (
  left-calls g old c b k now run there before after w l is x p γ a op shown new left calls first next own within turn q,
  left-lines g old c b k now run there before after w l is x p γ a op shown new left calls first next own within turn q,
)
