use Rattle.std.proofs.Common.{sym, ap, subst, ◌∙◌}
use Rattle.ec_volume.specs.Update.{fits, effect}
use Rattle.ec_pending.specs.OfOverlay.Fine.{is_fine}
use Rattle.ec_pending.specs.OfOverlay.Shown.{shown}
use Rattle.ec_pending.proofs.OfOverlay.Fine.{fine-after}
use Rattle.ec_pending.proofs.OfOverlay.Shown.{one-changed}
use Rattle.ec_pending.proofs.overlay.overlay.Overlay.change.Goals as goal

pub put-requires : goal.put-requires
put-requires c =
    let fit = sym c.fits.ensures ∙ c.if-not-fits.false in
    ap is_fine c.in_ok-effect.ensures.ok ∙ fine-after c.args.obj c.args.update.now c.in_ok-image.image c.requires fit c.in_ok-image.ensures.fine

pub returns-clause-images : goal.returns-clause-images
returns-clause-images c =
    let fit = sym c.fits.ensures ∙ c.if-not-fits.false in (
      ap (fits c.args.update.now c.args.obj) (sym c.in_ok-image.ensures.image) ∙ fit,
      one-changed c.args.update.now c.args.obj (shown c.args.self.now) c.take.new.self.under c.take.new.self.over c.put.new.self c.in_ok-image.image c.effect.new.self c.in_ok-image.ensures.image c.in_ok-effect.ensures.ok c.in_ok-image.ensures.others c.in_ok-put.ensures,
    )
