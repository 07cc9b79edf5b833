use Rattle.ec_doing.proofs.Steps.{if_ok}
use Rattle.ec_doing.proofs.doing.Doing.answer_outcome.Goals as goal

pub returns : goal.returns
returns c = if_ok c.answer_with.result (λ t p call begun u ws. p call begun ws) (rw c.as_slice.ensures at c.answer_with.ensures)
