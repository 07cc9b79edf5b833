use Rattle.ec_complete.proofs.OfAgreedLines.Reaching.{calls-once}
use Rattle.ec_complete.proofs.agreed_lines.line_answers.calls_are_answered_once.Goals as goal

pub returns : goal.returns
returns z w l c cl r none fine reached = calls-once l c cl w r none fine reached
