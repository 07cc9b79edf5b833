use Rattle.ec_doing.proofs.Steps.{on_ok, given_back}
use Rattle.ec_doing.proofs.doing.Doing.give_back.Goals as goal

pub returns : goal.returns
returns c = on_ok c.send_back.result (λ p ws. given_back ws c.args.self.now c.args.recalled.now c.left_of-to.result c.lower_held.new.cache c.passed.new.self _ c.left_of-to.ensures c.lower_held.ensures c.in_ok-passed.ensures.ok (p ws)) c.send_back.ensures
