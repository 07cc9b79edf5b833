use Rattle.ec_coherence.proofs.Doings.{begins-stand, goes-on-stand}
use Rattle.ec_coherence.proofs.clerk_changes.clerks_may_step.Goals as goal

pub returns-clause-begin : goal.returns-clause-begin
returns-clause-begin z = begins-stand

pub returns-clause-on : goal.returns-clause-on
returns-clause-on z = goes-on-stand
