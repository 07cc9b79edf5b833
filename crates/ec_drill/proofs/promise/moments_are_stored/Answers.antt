use Rattle.ec_drill.proofs.OfPromise.Lawful.{machine-stored}
use Rattle.ec_drill.proofs.promise.moments_are_stored.Goals as goal

pub returns : goal.returns
returns c = machine-stored
