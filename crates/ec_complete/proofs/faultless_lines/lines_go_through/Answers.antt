use Rattle.ec_complete.proofs.ForFaultless.Going.{lines-go-through}
use Rattle.ec_complete.proofs.faultless_lines.lines_go_through.Goals as goal

pub returns : goal.returns
returns c = lines-go-through
