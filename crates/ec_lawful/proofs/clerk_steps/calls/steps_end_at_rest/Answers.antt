use Rattle.ec_lawful.proofs.OfClerkSteps.ForCalls.RestsBehind.{rests-behind}
use Rattle.ec_lawful.proofs.OfClerkSteps.ForCalls.Resting.{evicts-rest, settles-rest, tries-rest}
use Rattle.ec_lawful.proofs.clerk_steps.calls.steps_end_at_rest.Goals as goal

pub returns-clause-settle : goal.returns-clause-settle
returns-clause-settle z = settles-rest

pub returns-clause-tries : goal.returns-clause-tries
returns-clause-tries z = tries-rest

pub returns-clause-evict : goal.returns-clause-evict
returns-clause-evict z = evicts-rest

pub returns-clause-behind : goal.returns-clause-behind
returns-clause-behind z g c b e γ ls run shown others own = rests-behind g c b e γ ls run shown others own
