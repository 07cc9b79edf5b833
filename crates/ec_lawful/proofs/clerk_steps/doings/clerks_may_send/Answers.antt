use Rattle.ec_lawful.proofs.OfClerkSteps.ForDoings.Calling.{begins}
use Rattle.ec_lawful.proofs.OfClerkSteps.ForDoings.Hand.{asks, claims, rooms, wants, wants-again}
use Rattle.ec_lawful.proofs.OfClerkSteps.ForDoings.Outstanding.{all-again}
use Rattle.ec_lawful.proofs.clerk_steps.doings.clerks_may_send.Goals as goal

pub returns-clause-begins : goal.returns-clause-begins
returns-clause-begins z = begins

pub returns-clause-wants : goal.returns-clause-wants
returns-clause-wants z g c b s d γ i x m held names = (wants g c b s d γ i x m held names, λ sent. wants-again g c b s d γ i x m held names sent)

pub returns-clause-rooms : goal.returns-clause-rooms
returns-clause-rooms z = rooms

pub returns-clause-closures : goal.returns-clause-closures
returns-clause-closures z a g c b s d γ i = asks g c b s d γ i a

pub returns-clause-claims : goal.returns-clause-claims
returns-clause-claims z = claims

pub returns-clause-outstanding : goal.returns-clause-outstanding
returns-clause-outstanding z g c b s d γ i = all-again g c b s γ d i
