use Rattle.ec_complete.proofs.ForLines.May.{calls-may-begin}
use Rattle.ec_complete.proofs.line_calls.calls_may_begin.Goals as goal

pub returns : goal.returns
returns c = calls-may-begin
