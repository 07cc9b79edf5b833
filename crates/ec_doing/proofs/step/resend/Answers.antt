use Rattle.ec_doing.specs.Seen.{clerk_with, doing_of, claim_all}
use Rattle.ec_doing.proofs.Steps.{ends_with}
use Rattle.ec_doing.proofs.step.resend.Goals as goal

pub returns : goal.returns
returns c =
    let ws = c.args.waiting.now in
    ends_with claim_all (clerk_with ws c.args.doing.now) (clerk_with ws c.outs.new.self) (doing_of ws c.clear.new.self) (doing_of ws c.claim_all.new.self) c.outs.result.items (c.clear.ensures ws) c.in_ok-claim_all.ensures (c.outs.ensures ws)
