use Rattle.ec_quiet.proofs.Taking.{arrives, ready}
use Rattle.ec_quiet.proofs.clerk_phases.grants_are_taken.Goals as goal

pub returns : goal.returns
returns c j sc x h n rest q head out = (q.facts.3.clerk, q.facts.3.slot, q.facts.3.working.there, arrives j sc x h n rest q head out, ready j sc x h n rest q head out)
