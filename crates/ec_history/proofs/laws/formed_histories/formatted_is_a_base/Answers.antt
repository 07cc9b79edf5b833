use Rattle.ec_history.proofs.OfLaws.ForFormed.Bases.{base-formatted}
use Rattle.ec_history.proofs.laws.formed_histories.formatted_is_a_base.Goals as goal

pub returns : goal.returns
returns c = base-formatted
