use Rattle.ec_drill.proofs.OfPromise.Behind.{machines-behind}
use Rattle.ec_drill.proofs.promise.drills_are_behind.Goals as goal

pub returns : goal.returns
returns c = machines-behind
