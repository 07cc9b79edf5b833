use Rattle.ec_complete.proofs.ForLines.Starts.{starts-come-on}
use Rattle.ec_complete.proofs.line_calls.starts_come_on_line.Goals as goal

pub returns : goal.returns
returns c = starts-come-on
