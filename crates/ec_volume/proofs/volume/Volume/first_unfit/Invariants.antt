use Rattle.std.proofs.Common.{◌≡◌, drop}
use Rattle.ec_volume.specs.Update.{first_unfit}
use Rattle.ec_volume.specs.Volume.{images}
use Rattle.ec_volume.proofs.volume.Volume.first_unfit.Given as goal

abbrev pub invariant-loop-id : goal.invariant-loop-id
invariant-loop-id l = first_unfit l.update (images l.self) l.ids ≡ first_unfit l.update (images l.self) (drop l.id-index l.ids)
