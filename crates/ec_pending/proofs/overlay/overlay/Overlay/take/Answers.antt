use Rattle.ec_volume.specs.declared.image.Image.TheVariants.{Gone}
use Rattle.ec_pending.proofs.OfOverlay.Shown.{others-taken}
use Rattle.ec_pending.proofs.overlay.overlay.Overlay.take.Goals as goal

pub returns-in-Some-clause-others : goal.returns-in-Some-clause-others
returns-in-Some-clause-others c = others-taken c.args.self.now.under c.args.self.now.over c.take.new.self c.args.obj Gone c.in-Some.ensures.some
