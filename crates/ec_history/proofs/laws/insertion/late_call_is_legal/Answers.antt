use Rattle.ec_history.proofs.OfLaws.ForPlacing.Inserted.{insertion}
use Rattle.ec_history.proofs.laws.insertion.late_call_is_legal.Goals as goal

pub returns : goal.returns
returns c = insertion
