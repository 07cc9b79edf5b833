use Rattle.ec_quiet.proofs.Showing.{settled-lines}
use Rattle.ec_quiet.proofs.settling.settling_lines_are_settled.Goals as goal

pub returns : goal.returns
returns z w = settled-lines w
