use Rattle.ec_complete.proofs.IdsRising.{rising-answer}
use Rattle.ec_complete.proofs.plain_ids.ids_make_no_difference.Goals as goal

pub returns : goal.returns
returns c = rising-answer
