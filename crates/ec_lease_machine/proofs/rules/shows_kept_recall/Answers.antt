use Rattle.std.specs.Prelude.{refl}
use Rattle.ec_sessions.specs.Slots.{sixteen}
use Rattle.ec_sessions.specs.Windows.{marked}
use Rattle.ec_lease_machine.proofs.rules.shows_kept_recall.Goals as goal

pub returns : goal.returns
unfolding sixteen marked
returns c = refl
