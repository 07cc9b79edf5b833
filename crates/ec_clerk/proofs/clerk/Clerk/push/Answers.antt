use Rattle.std.proofs.Common.{sym, ap, ◌∙◌}
use Rattle.ec_protocol.specs.Clerk as clerk
use Rattle.ec_clerk.proofs.clerk.Clerk.push.Goals as goal

pub returns-clause-ok : goal.returns-clause-ok
returns-clause-ok c = sym (ap (clerk.push c.args.op) c.self.view_is) ∙ c.in_ok-outs.ensures
