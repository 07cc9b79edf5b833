use Rattle.std.proofs.Common.{◌∙◌, ap, subst, sym}
use Rattle.ec_volume.specs.Held.{IsVolume}
use Rattle.ec_volume.specs.Volume.{images}
use Rattle.ec_volume.proofs.Held.{images-without, IsVolume-without}
use Rattle.ec_volume.proofs.carry.clear.Goals as goal

pub returns-in-Some-clause-images : goal.returns-in-Some-clause-images
returns-in-Some-clause-images c = λ o. rw c.in-Some.is (ap (λ es. images es o) c.remove.ensures.others ∙ images-without c.in-Some.id c.args.map.now o)

pub returns-in-Some-clause-volume : goal.returns-in-Some-clause-volume
returns-in-Some-clause-volume c = subst IsVolume (sym c.remove.ensures.others) (IsVolume-without c.in-Some.id c.args.map.now c.requires)
