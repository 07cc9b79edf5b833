use Rattle.ec_lawful.proofs.OfClerkSteps.ForCalls.CallFrames.{calls-kept, rest-kept, served-calls, served-rest}
use Rattle.ec_lawful.proofs.OfClerkSteps.ForCalls.Opening.{opening-calls, opening-rest}
use Rattle.ec_lawful.proofs.clerk_steps.calls.servers_keep_calls.Goals as goal

pub returns-clause-opening : goal.returns-clause-opening
returns-clause-opening z g still none = (opening-calls g still none, opening-rest g still none)

pub returns-clause-lines : goal.returns-clause-lines
returns-clause-lines z g d v r p γ old now ls shown quiet = (calls-kept g d v r p γ old now ls shown quiet, rest-kept g d v r p γ old now ls shown quiet)

pub returns-clause-steps : goal.returns-clause-steps
returns-clause-steps z g all γ t st = (served-calls g all γ t st, served-rest g all γ t st)
