use Rattle.ec_doing.proofs.Steps.{if_ok}
use Rattle.ec_doing.proofs.doing.Doing.settle_reply.Goals as goal

pub returns-in-None : goal.returns-in-None
returns-in-None c = rw c.in-None.is (if_ok c.answer_outcome.result (λ t p call u ws. p call c.args.begun u ws) c.answer_outcome.ensures)
