use Rattle.ec_doing.specs.Seen.{doing_of, waiting_of, outcome_of, tried}
use Rattle.ec_doing.proofs.Steps.{if_ok, issued}
use Rattle.ec_doing.proofs.doing.Doing.issue.Goals as goal

pub returns : goal.returns
returns c = if_ok c.answer_with.result (λ t p call begun u ws. issued ws c.args.self.now c.add_update.new.self (waiting_of c.args.no call begun) (outcome_of c.args.reply u c.args.touched) c.args.update c.in_ok-op.op (tried t (doing_of ws c.answer_with.new.self)) c.in_ok-op.ensures.room (c.in_ok-op.ensures.ok ws) c.in_ok-op.ensures.op (p call begun ws)) (rw c.as_slice.ensures at c.answer_with.ensures)
