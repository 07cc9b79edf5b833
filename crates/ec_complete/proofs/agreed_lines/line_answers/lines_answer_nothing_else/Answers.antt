use Rattle.ec_complete.proofs.OfAgreedLines.Reaching.{others-none}
use Rattle.ec_complete.proofs.agreed_lines.line_answers.lines_answer_nothing_else.Goals as goal

pub returns : goal.returns
returns z w r none = others-none w r none
