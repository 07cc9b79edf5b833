use Rattle.std.proofs.Common.{sym, ◌∙◌, ℕ, Option}
use Rattle.ec_volume.specs.Update.{has_operand}
use Rattle.ec_volume.specs.declared.update.Update.{Update}
use Rattle.ec_log.specs.OfChains.Slots.{placed, shown_update}
use Rattle.ec_log.proofs.OfChains.Live.{placed-get, placed-has}
use Rattle.ec_log.proofs.OfChains.Taken.{place-off, place-on}
use Rattle.ec_log.proofs.chains.walking.place_on.Goals as goal

pub returns-then-not-has_operand : goal.returns-then-not-has_operand
returns-then-not-has_operand c =
    let x : ℕ × Option Update = c.index-held-place.result in
    place-off c.args.op c.args.obj (placed c.args.held.now) c.in-Ok.place (x.0, shown_update x.1) c.requires c.in-Ok.ensures (placed-get c.args.held.now c.in-Ok.place x c.index-held-place.is)
    (placed-has c.args.obj c.args.held.now c.in-Ok.place x c.index-held-place.is ∙ sym c.has_operand.ensures ∙ c.if-not-has_operand.true)

pub returns : goal.returns
returns c =
    let x : ℕ × Option Update = c.index-held-place.result in
    place-on c.args.op c.args.obj (placed c.args.held.now) c.in-Ok.place (x.0, shown_update x.1) c.requires c.in-Ok.ensures (placed-get c.args.held.now c.in-Ok.place x c.index-held-place.is)
    (placed-has c.args.obj c.args.held.now c.in-Ok.place x c.index-held-place.is ∙ sym c.has_operand.ensures ∙ c.if-not-has_operand.false)
