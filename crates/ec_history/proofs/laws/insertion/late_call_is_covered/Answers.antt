use Rattle.ec_history.proofs.OfLaws.ForPlacing.Taken.{taken-covered}
use Rattle.ec_history.proofs.laws.insertion.late_call_is_covered.Goals as goal

pub returns : goal.returns
returns c = taken-covered
