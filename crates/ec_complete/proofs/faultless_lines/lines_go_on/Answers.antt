use Rattle.ec_complete.proofs.ForFaultless.Going.{lines-go-on}
use Rattle.ec_complete.proofs.faultless_lines.lines_go_on.Goals as goal

pub returns : goal.returns
returns c = lines-go-on
