use Rattle.ec_lawful.proofs.OfClerkSteps.Singles.{all-tries-on, tries-on}
use Rattle.ec_lawful.proofs.clerk_steps.answers.calls_are_tried.Goals as goal

pub returns-clause-one : goal.returns-clause-one
returns-clause-one z g c b d γ t before rest w split = tries-on g c b d γ t before rest w split

pub returns-clause-all : goal.returns-clause-all
returns-clause-all z g c b d γ t = all-tries-on g c b d γ t
