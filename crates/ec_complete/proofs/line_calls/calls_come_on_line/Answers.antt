use Rattle.ec_complete.proofs.ForLines.On.{calls-come-on}
use Rattle.ec_complete.proofs.line_calls.calls_come_on_line.Goals as goal

pub returns : goal.returns
returns c = calls-come-on
