use Rattle.std.proofs.Common.{◌∙◌}
use Rattle.ec_doing.proofs.doing.Doing.claim.Goals as goal

pub returns : goal.returns
returns c = rw (c.of-tokens.ensures ∙ c.in_ok-tokens.ensures) at (rw c.session.ensures at c.send.ensures)
