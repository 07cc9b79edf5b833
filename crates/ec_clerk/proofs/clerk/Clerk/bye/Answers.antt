use Rattle.std.proofs.Common.{sym, ap, ◌∙◌}
use Rattle.ec_protocol.specs.Clerk as clerk
use Rattle.ec_clerk.proofs.clerk.Clerk.bye.Goals as goal

pub returns-clause-ok : goal.returns-clause-ok
returns-clause-ok c = sym (ap clerk.bye c.self.view_is) ∙ c.in_ok-outs.ensures c.self.inside.waiting.items
