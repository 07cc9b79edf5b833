use Rattle.std.proofs.Common.{◌∙◌, ap}
use Rattle.std.specs.Prelude.{filter}
use Rattle.ec_log.specs.OfChains.Held.{first_number}
use Rattle.ec_log.specs.OfChains.Walk.{passes}
use Rattle.ec_log.specs.declared.chains.closure.Ask.TheVariants.{Op}
use Rattle.ec_log.proofs.OfChains.Firsts.{first-op, no-op}
use Rattle.ec_log.proofs.chains.order.Order.first_op.Goals as goal

pub returns-then-not-has : goal.returns-then-not-has
returns-then-not-has c = no-op c.args.op c.self.inside.held (c.has.ensures.no c.if-not-has.true) ∙ ap (λ l. first_number (filter (passes (Op c.args.op)) l)) c.self.view_is

pub returns : goal.returns
returns c = first-op c.args.op c.self.inside.held c.has.ensures.sorted (c.has.ensures.yes c.if-not-has.false) ∙ ap (λ l. first_number (filter (passes (Op c.args.op)) l)) c.self.view_is
