use Rattle.ec_volume.proofs.Changed.{changed_images}
use Rattle.ec_volume.proofs.laws.changed_volume_shows_the_update.Goals as goal

pub returns : goal.returns
returns c = changed_images
