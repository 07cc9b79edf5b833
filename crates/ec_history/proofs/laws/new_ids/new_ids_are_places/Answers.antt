use Rattle.ec_history.proofs.OfLaws.ForRenamed.Placed.{covered-there, fits-there, legal-there, stored-there}
use Rattle.ec_history.proofs.laws.new_ids.new_ids_are_places.Goals as goal

pub returns : goal.returns
returns z v f n ss formed top t = (legal-there v f n ss formed top t, covered-there v f n ss formed top t, stored-there v f n ss formed top t, fits-there v f n ss formed top t)
