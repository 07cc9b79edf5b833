use Rattle.ec_history.proofs.OfLaws.ForRenamed.Grown.{grows}
use Rattle.ec_history.proofs.laws.new_ids.new_ids_grow.Goals as goal

pub returns : goal.returns
returns z = grows
