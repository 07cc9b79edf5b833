use Rattle.ec_complete.proofs.ForFaultless.Going.{pushes-go}
use Rattle.ec_complete.proofs.faultless_lines.issued_pushes_go.Goals as goal

pub returns : goal.returns
returns c = pushes-go
