use Rattle.std.proofs.Common.{◌∙◌, ap, sym}
use Rattle.std.specs.Option.{option_copied}
use Rattle.std.specs.Ordering.{nat_cmp}
use Rattle.std.specs.FinMap.{find}
use Rattle.ec_volume.specs.Update.{effect}
use Rattle.ec_volume.specs.Volume.{images}
use Rattle.ec_volume.specs.Held.{is_held}
use Rattle.ec_volume.proofs.Alone.{looked_at}
use Rattle.ec_volume.proofs.Held.{found, not_found, image_held}
use Rattle.ec_volume.proofs.Within.{effect_held}
use Rattle.ec_volume.proofs.carry.changed_image.Goals as goal

pub unreachable-requires : goal.unreachable-requires
unreachable-requires c =
    not_found (find nat_cmp c.args.id c.args.map.now) (images c.args.map.now c.args.id)
    (sym c.get.ensures ∙ ap option_copied c.in_default.is) (found c.args.map.now c.args.id c.requires.live)

pub returns-clause-image : goal.returns-clause-image
returns-clause-image c =
    c.in_ok-effect.ensures.ok
    ∙ ap (effect c.args.update.now c.args.id) (c.in_ok-image.ensures ∙ sym (looked_at c.args.map.now c.args.id c.in-Some.image.now (sym c.in-Some.ensures)))

pub returns-clause-held : goal.returns-clause-held
returns-clause-held c =
    let old = c.args.map.now in
    let id = c.args.id in
    ap is_held (returns-clause-image c)
    ∙ effect_held c.args.update.now id (images old id) c.requires.sound c.requires.fits (image_held old id c.requires.volume c.requires.live) c.requires.stays
