use Rattle.ec_lawful.proofs.OfClerkSteps.ForDoings.Evicting.{evicts}
use Rattle.ec_lawful.proofs.OfClerkSteps.ForDoings.Pushes.{asks-pushes, keeps-push}
use Rattle.ec_lawful.proofs.OfClerkSteps.ForDoings.Recalls.{answers}
use Rattle.ec_lawful.proofs.clerk_steps.doings.clerks_may_give_back.Goals as goal

pub returns-clause-recalls : goal.returns-clause-recalls
returns-clause-recalls z g c b s d γ i = answers g c b s γ d i

pub returns-clause-pushes : goal.returns-clause-pushes
returns-clause-pushes z = ((λ g c b s d γ i. asks-pushes g c b s γ d i), (λ n g c b s d γ i. keeps-push g c b s γ n d i))

pub returns-clause-evicted : goal.returns-clause-evicted
returns-clause-evicted z = evicts
