use Rattle.ec_machine_laws.proofs.Answering.{answers}
use Rattle.ec_machine_laws.proofs.plain_answers.legal_lines_are_answered_plainly.Goals as goal

pub returns : goal.returns
returns z base most ss legal plain = answers base most ss legal plain
