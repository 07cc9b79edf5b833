use Rattle.ec_complete.proofs.Counted.{tells-all}
use Rattle.ec_complete.proofs.plain_ids.answers_tell_operations.Goals as goal

pub returns : goal.returns
returns c = tells-all
