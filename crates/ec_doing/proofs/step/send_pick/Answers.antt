use Rattle.ec_doing.specs.Seen.{clerk_with, doing_of, send_if_batch}
use Rattle.ec_doing.proofs.Steps.{ends_with}
use Rattle.ec_doing.proofs.step.send_pick.Goals as goal

pub returns : goal.returns
returns c = λ ws. ends_with (send_if_batch c.args.pick.now) (clerk_with ws c.args.doing.now) (clerk_with ws c.outs.new.self) (doing_of ws c.clear.new.self) (doing_of ws c.send_picked.new.self) c.outs.result.items (c.clear.ensures ws) (c.in_ok-send_picked.ensures ws) (c.outs.ensures ws)
