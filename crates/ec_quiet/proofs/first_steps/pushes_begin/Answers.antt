use Rattle.ec_quiet.proofs.Pushing.{begins}
use Rattle.ec_quiet.proofs.first_steps.pushes_begin.Goals as goal

pub returns : goal.returns
returns c j sc sl k n idle is = begins j sc sl k n idle is
