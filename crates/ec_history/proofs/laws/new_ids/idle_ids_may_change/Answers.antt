use Rattle.ec_history.proofs.OfLaws.ForRenamed.IdleIds.{covered-so, legal-so, stored-so}
use Rattle.ec_history.proofs.laws.new_ids.idle_ids_may_change.Goals as goal

pub returns : goal.returns
returns z v f q ss t = (legal-so v f q ss t, covered-so v f q ss t, stored-so v f q ss t)
