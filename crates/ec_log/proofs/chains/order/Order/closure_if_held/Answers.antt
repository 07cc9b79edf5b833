use Rattle.std.proofs.Common.{◌∙◌, ap, sym, subst}
use Rattle.ec_base.specs.Tables.{keys}
use Rattle.ec_log.specs.OfChains.Chains.{AreLinked}
use Rattle.ec_log.specs.OfChains.Walk.{passes, walk}
use Rattle.ec_log.specs.declared.chains.closure.Ask.TheVariants.{Op}
use Rattle.ec_log.proofs.OfChains.Firsts.{no-closure}
use Rattle.ec_log.proofs.OfChains.Live.{linked-placed}
use Rattle.ec_log.proofs.chains.order.Order.closure_if_held.Goals as goal

pub returns-then-not-has : goal.returns-then-not-has
returns-then-not-has c =
    c.new.ensures.items ∙ no-closure c.args.op c.self.inside.held (c.has.ensures.no c.if-not-has.true) ∙ ap (λ l. keys (walk (passes (Op c.args.op)) l)) c.self.view_is

pub closure-requires-clause-linked : goal.closure-requires-clause-linked
closure-requires-clause-linked c = linked-placed c.self.inside.chains c.slots.result.now (subst (AreLinked c.self.inside.chains) (sym c.slots.ensures.value) c.self.invariant.1)
