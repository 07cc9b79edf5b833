use Rattle.std.proofs.lemmas.Bool.{le-ltb}
use Rattle.ec_doing.proofs.Steps.{on_ok, restarted}
use Rattle.ec_doing.proofs.doing.Doing.take_restarted.Goals as goal

pub returns : goal.returns
returns c =
    let ws = c.args.waiting.now in
    on_ok c.send_outstanding.result (λ p. restarted ws c.args.self.now c.enter_if_later.new.self c.claim.new.self c.args.epoch _ (le-ltb _ _ c.if-epoch-self.false) (c.in_ok-enter_if_later.ensures ws) (c.in_ok-claim.ensures ws) p) c.send_outstanding.ensures
