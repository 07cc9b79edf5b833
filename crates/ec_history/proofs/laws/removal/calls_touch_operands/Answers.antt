use Rattle.ec_history.proofs.OfLaws.ForPlacing.Touching.{plain-touches}
use Rattle.ec_history.proofs.laws.removal.calls_touch_operands.Goals as goal

pub returns : goal.returns
returns c = plain-touches
