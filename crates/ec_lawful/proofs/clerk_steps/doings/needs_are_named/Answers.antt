use Rattle.ec_lawful.proofs.OfClerkSteps.ForDoings.Moving as moving
use Rattle.ec_lawful.proofs.OfClerkSteps.ForDoings.Naming.{needs-named}
use Rattle.ec_lawful.proofs.OfClerkSteps.ForDoings.Order.{ids-are-out}
use Rattle.ec_lawful.proofs.clerk_steps.doings.needs_are_named.Goals as goal
use Rattle.ec_coherence.specs.Steps.{doing_in}

pub returns-clause-named : goal.returns-clause-named
returns-clause-named z g c b s d γ h cl = needs-named (doing_in c b d γ g) h.names ((moving.all g c b s d γ h.under_way).0).images s d.clerk (moving.there g c b s d γ h.under_way) cl

pub returns-clause-none_left : goal.returns-clause-none_left
returns-clause-none_left z = ids-are-out
