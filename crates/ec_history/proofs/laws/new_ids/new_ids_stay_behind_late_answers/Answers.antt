use Rattle.ec_history.proofs.OfLaws.ForRenamed.LateIds.{beside-late}
use Rattle.ec_history.proofs.laws.new_ids.new_ids_stay_behind_late_answers.Goals as goal

pub returns : goal.returns
returns z = beside-late
