use Rattle.ec_lawful.proofs.ForBegins.FirstAnswered.{first-answers}
use Rattle.ec_lawful.proofs.begins.first_calls_are_answered.Goals as goal

pub returns : goal.returns
returns z = first-answers
