use Rattle.std.proofs.Common.{sym, ap, subst, List, ◌∙◌}
use Rattle.ec_protocol.specs.declared.clerk.Waiting.{Waiting}
use Rattle.ec_protocol.specs.Clerk as clerk
use Rattle.ec_doing.specs.Seen.{clerk_with, EndsWith}
use Rattle.ec_clerk.proofs.clerk.Clerk.resend.Goals as goal

pub returns-clause-ok : goal.returns-clause-ok
returns-clause-ok c =
    sym (ap clerk.resend c.self.view_is)
    ∙ subst (λ (ws : List Waiting). EndsWith (clerk.resend (clerk_with ws c.self.inside.doing)) (clerk_with ws c.resend.new.doing) c.in_ok-outs.outs.items) c.deref.ensures.value c.in_ok-outs.ensures
