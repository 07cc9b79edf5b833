use Rattle.ec_complete.proofs.ForLines.Begun.{begins-are-steps}
use Rattle.ec_complete.proofs.line_begins.begun_calls_are_such_steps.Goals as goal

pub returns : goal.returns
returns c = begins-are-steps
