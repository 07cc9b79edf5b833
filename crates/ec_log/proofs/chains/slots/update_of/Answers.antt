use Rattle.std.proofs.Common.{ap, sym, ◌∙◌, ℕ, Option}
use Rattle.ec_volume.specs.declared.update.Update.{Update}
use Rattle.ec_log.proofs.OfChains.Live.{live-at, absent-live}
use Rattle.ec_log.proofs.chains.slots.update_of.Goals as goal

pub returns-in-Ok : goal.returns-in-Ok
returns-in-Ok c =
    c.as_ref.ensures.value
    ∙ ap (λ (y : ℕ × Option Update). y.1) (sym c.index-held-place.is)
    ∙ live-at c.args.op c.args.held.now c.in-Ok.place c.index-held-place.result c.requires c.in-Ok.ensures c.index-held-place.is

pub returns-in-Err : goal.returns-in-Err
returns-in-Err c = absent-live c.args.op c.args.held.now c.in-Err.ensures
