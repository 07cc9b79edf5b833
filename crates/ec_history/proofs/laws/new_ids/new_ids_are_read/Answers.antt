use Rattle.ec_history.proofs.OfLaws.ForRenamed.Reading.{read-by-places}
use Rattle.ec_history.proofs.laws.new_ids.new_ids_are_read.Goals as goal

pub returns : goal.returns
returns z v f n ss formed top t = read-by-places v f n ss formed top t
