use Rattle.ec_complete.proofs.ForFaultless.Seeing.{worked-lines-see}
use Rattle.ec_complete.proofs.followed_lines.worked_lines_see.Goals as goal

pub returns : goal.returns
returns c = worked-lines-see
