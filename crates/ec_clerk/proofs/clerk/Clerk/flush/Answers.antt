use Rattle.std.proofs.Common.{ap, sym, ◌∙◌, Ok}
use Rattle.ec_protocol.specs.Clerk as clerk
use Rattle.ec_doing.specs.Seen.{clerk_with}
use Rattle.ec_doing.proofs.Steps.{flushed}
use Rattle.ec_clerk.proofs.clerk.Clerk.flush.Goals as goal

pub returns-clause-ok : goal.returns-clause-ok
returns-clause-ok c =
    let ws = c.self.inside.waiting.items in
    let k = clerk_with ws c.self.inside.doing in
    sym (ap (clerk.flush c.args.asked) c.self.view_is) ∙ flushed k c.args.asked c.in-Ok.pick c.pick.new.self _ c.in-Ok.ensures.pick c.in-Ok.ensures.ok (λ b ns e. c.in-Ok.ensures.room b ns (ap Ok e)) (c.in_ok-outs.ensures ws)
