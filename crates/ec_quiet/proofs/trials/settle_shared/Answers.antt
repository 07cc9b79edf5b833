use Rattle.std.proofs.Common.{refl}
use Rattle.ec_sessions.specs.Slots.{sixteen}
use Rattle.ec_sessions.specs.Windows.{marked}
use Rattle.ec_quiet.proofs.trials.settle_shared.Goals as goal

pub returns : goal.returns
unfolding sixteen marked
returns c = refl
