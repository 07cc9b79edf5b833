use Rattle.std.proofs.Common.{◌∙◌, sym}
use Rattle.ec_log.proofs.OfChains.Emptied.{has-yes, has-no}
use Rattle.ec_log.proofs.chains.held.Held.has.Goals as goal

pub returns-clause-yes : goal.returns-clause-yes
returns-clause-yes c = λ e. has-yes c.args.op c.args.self.now c.get.result c.get.ensures.value (sym c.is_some.ensures ∙ e)

pub returns-clause-no : goal.returns-clause-no
returns-clause-no c = λ e. has-no c.args.op c.args.self.now c.get.result c.get.ensures.sorted c.get.ensures.value (sym c.is_some.ensures ∙ e)
