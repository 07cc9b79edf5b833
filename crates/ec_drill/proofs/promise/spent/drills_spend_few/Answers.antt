use Rattle.ec_drill.proofs.OfPromise.OfSpent.Drills.{drills-spend-few}
use Rattle.ec_drill.proofs.promise.spent.drills_spend_few.Goals as goal

pub returns : goal.returns
returns c = drills-spend-few
