use Rattle.std.proofs.Common.{sym, ◌∙◌, ap, Some}
use Rattle.ec_protocol.specs.Clerk as clerk
use Rattle.ec_doing.proofs.OfHoldings.Asked.{last_is}
use Rattle.ec_doing.proofs.holdings.awaiting.on_last.Goals as goal

pub returns-in-len1-up : goal.returns-in-len1-up
returns-in-len1-up c = ap clerk.on_object (ap Some c.last-item.is ∙ sym (last_is c.args.touched.now c.last-item.result c.in-len1-up.len_at_least))
