use Rattle.ec_history.proofs.OfLaws.ForPlacing.Places.{covered-longer}
use Rattle.ec_history.proofs.laws.placing.lines_above_cover.Goals as goal

pub returns : goal.returns
returns c = covered-longer
