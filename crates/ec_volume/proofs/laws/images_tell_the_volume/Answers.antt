use Rattle.ec_volume.proofs.Changed.{volumes_equal}
use Rattle.ec_volume.proofs.laws.images_tell_the_volume.Goals as goal

pub returns : goal.returns
returns c = volumes_equal
