use Rattle.std.proofs.Common.{sym, subst}
use Rattle.std.specs.Prelude.{T}
use Rattle.ec_volume.specs.Update.{member}
use Rattle.ec_log.specs.OfChains.Chains.{AreLinked}
use Rattle.ec_log.proofs.OfChains.Live.{linked-placed}
use Rattle.ec_log.proofs.chains.order.Order.first.Goals as goal

pub first_on-requires-clause-linked : goal.first_on-requires-clause-linked
first_on-requires-clause-linked c = λ n u h t.
    subst (λ l. T (member n l)) (sym c.chain_of.ensures.value) ((linked-placed c.self.inside.chains c.slots.result.now (subst (AreLinked c.self.inside.chains) (sym c.slots.ensures.value) c.self.invariant.1)) c.in-Object.obj n u h t)
