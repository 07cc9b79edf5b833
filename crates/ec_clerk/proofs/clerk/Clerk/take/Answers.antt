use Rattle.std.proofs.Common.{◌≡◌, sym, ap, ◌∙◌, Some}
use Rattle.ec_protocol.specs.Clerk as clerk
use Rattle.ec_doing.specs.Seen.{clerk_with}
use Rattle.ec_doing.proofs.Spent.{settles}
use Rattle.ec_clerk.proofs.clerk.Clerk.take.Goals as goal

pub returns-clause-ok : goal.returns-clause-ok
returns-clause-ok c = sym (ap (clerk.take c.args.msg) c.self.view_is) ∙ c.in_ok-outs.ensures

pub returns-in-Some-clause-spent : goal.returns-in-Some-clause-spent
returns-in-Some-clause-spent c = λ k e.
    let ws = c.self.inside.waiting.items in
    let same : c.in-Some.counter ≡ k = (cc e) in
    sym (ap (λ x. (clerk.take c.args.msg x).spent) c.self.view_is) ∙ settles c.in-Some.counter (clerk.taken c.args.msg (clerk.doing (clerk_with ws c.self.inside.doing))) (c.in-Some.ensures ws) ∙ ap Some same
