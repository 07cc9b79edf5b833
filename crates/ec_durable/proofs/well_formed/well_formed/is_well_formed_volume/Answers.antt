use Rattle.std.proofs.Common.{rules, ◌≡◌, ℕ, List, Bool, true, false, sym, subst, ap, ◌∙◌}
use Rattle.ec_volume.specs.Image.{is_dir}
use Rattle.ec_volume.specs.Held.{IsVolume}
use Rattle.ec_volume.specs.Update.{root}
use Rattle.ec_volume.specs.Volume.{images}
use Rattle.ec_volume.specs.Volume as formed
use Rattle.ec_volume.specs.declared.image.Image.{Image}
use Rattle.ec_durable.specs.OfWellFormed.WellFormed.{AreNamedOnce}
use Rattle.ec_durable.proofs.OfWellFormed.Trees.{volume_formed, formed_named}
use Rattle.ec_durable.proofs.OfWellFormed.Deciding.{decides_too}
use Rattle.ec_durable.proofs.well_formed.well_formed.is_well_formed_volume.Goals as goal

pub returns : goal.returns
returns c =
    let es : List (ℕ × Image) = c.args.volume.now in
    let same : c.items-images.result.now ≡ es = c.items-images.ensures.value in
    let is : is_dir (images c.items-images.result.now root) ≡ true = search rules in
    let root_is : is_dir (images es root) ≡ true = subst (λ (xs : List (ℕ × Image)). is_dir (images xs root) ≡ true) same is in
    decides_too c.are_named_once.result (AreNamedOnce c.items-images.result.now) (formed.WellFormed (images es))
    (λ named. volume_formed es c.items-images.ensures.volume root_is (subst AreNamedOnce same named))
    (λ w. subst AreNamedOnce (sym same) (formed_named es c.items-images.ensures.volume w))
    c.are_named_once.ensures
