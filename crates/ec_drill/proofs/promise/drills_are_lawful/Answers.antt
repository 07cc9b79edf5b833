use Rattle.ec_drill.proofs.OfPromise.Lawful.{machine-lawful}
use Rattle.ec_drill.proofs.promise.drills_are_lawful.Goals as goal

pub returns : goal.returns
returns c = machine-lawful
