use Rattle.std.proofs.Common.{ap, sym, ◌∙◌, ℕ, Option}
use Rattle.std.specs.Prelude.{is_some}
use Rattle.ec_volume.specs.declared.update.Update.{Update}
use Rattle.ec_log.proofs.OfChains.Live.{leads-next}
use Rattle.ec_log.proofs.chains.slots.leading.Goals as goal

pub each-preserved : goal.each-preserved
each-preserved c =
    leads-next c.args.held.now c.each.count c.index-held-count.result c.each-test.true c.index-held-count.is
    (ap (λ (y : ℕ × Option Update). is_some y.1) c.index-held-count.is ∙ sym c.is_some.ensures ∙ c.if-is_some.false)
    c.each.invariant.1
