use Rattle.ec_protocol.specs.Clerk as clerk
use Rattle.ec_doing.specs.Seen.{clerk_with, doing_of, keep_if_own}
use Rattle.ec_doing.proofs.Steps.{two_steps}
use Rattle.ec_doing.proofs.step.push.Goals as goal

pub returns : goal.returns
returns c =
    let ws = c.args.waiting.now.items in
    let us = c.settle.new.waiting.items in
    two_steps (keep_if_own c.args.op) clerk.settle (clerk_with ws c.args.doing.now) (clerk_with us c.outs.new.self) (doing_of ws c.clear.new.self) (doing_of ws c.keep_if_own.new.self) (doing_of us c.settle.new.doing) c.outs.result.items (c.clear.ensures ws) (c.in_ok-keep_if_own.ensures ws) c.in_ok-settle.ensures (c.outs.ensures us)
