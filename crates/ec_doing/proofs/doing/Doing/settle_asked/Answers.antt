use Rattle.std.proofs.Common.{sym, ◌∙◌}
use Rattle.ec_doing.specs.Seen.{doing_of, waiting_of, outcome_of, tried}
use Rattle.ec_doing.proofs.Steps.{if_ok, settled}
use Rattle.ec_doing.proofs.doing.Doing.settle_asked.Goals as goal

pub returns : goal.returns
returns c = if_ok c.answer_outcome.result (λ t p call u ws. settled ws c.args.self.now (waiting_of c.args.no call c.args.begun) (outcome_of c.args.reply u c.args.touched) c.args.asked.now (tried t (doing_of ws c.answer_outcome.new.self)) (rw c.first.ensures at (sym c.is_owing.ensures ∙ c.if-is_owing.false)) (p call c.args.begun u ws)) c.answer_outcome.ensures
