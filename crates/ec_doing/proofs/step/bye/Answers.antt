use Rattle.ec_doing.specs.Seen.{clerk_with, doing_of, part}
use Rattle.ec_doing.proofs.Steps.{ends_with}
use Rattle.ec_doing.proofs.step.bye.Goals as goal

pub returns : goal.returns
returns c = λ ws. ends_with part (clerk_with ws c.args.doing.now) (clerk_with ws c.outs.new.self) (doing_of ws c.clear.new.self) (doing_of ws c.part.new.self) c.outs.result.items (c.clear.ensures ws) (c.in_ok-part.ensures ws) (c.outs.ensures ws)
