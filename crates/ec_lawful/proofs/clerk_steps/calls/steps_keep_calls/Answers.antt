use Rattle.ec_lawful.proofs.OfClerkSteps.ForCalls.Quiet.{begins-step, quiet-calls, quiet-lines}
use Rattle.ec_lawful.proofs.clerk_steps.calls.steps_keep_calls.Goals as goal

pub returns-clause-begin : goal.returns-clause-begin
returns-clause-begin z = begins-step

pub returns-clause-quiet : goal.returns-clause-quiet
returns-clause-quiet z g c b d e γ q = (quiet-calls g c b d e γ q, quiet-lines g c b d e γ q)
