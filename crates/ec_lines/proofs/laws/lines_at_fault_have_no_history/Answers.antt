use Rattle.ec_lines.proofs.Excluded.{excludes}
use Rattle.ec_lines.proofs.laws.lines_at_fault_have_no_history.Goals as goal

pub returns : goal.returns
returns c = excludes
