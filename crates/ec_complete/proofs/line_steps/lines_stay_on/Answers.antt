use Rattle.ec_complete.proofs.ForLines.Delivering.{lines-stay-on}
use Rattle.ec_complete.proofs.line_steps.lines_stay_on.Goals as goal

pub returns : goal.returns
returns c = lines-stay-on
