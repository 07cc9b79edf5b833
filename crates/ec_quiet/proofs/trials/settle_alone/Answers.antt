use Rattle.std.proofs.Common.{refl}
use Rattle.ec_sessions.specs.Slots.{sixteen}
use Rattle.ec_sessions.specs.Windows.{marked}
use Rattle.ec_quiet.proofs.trials.settle_alone.Goals as goal

pub returns-clause-write : goal.returns-clause-write
unfolding sixteen marked
returns-clause-write c = refl

pub returns-clause-refusals : goal.returns-clause-refusals
unfolding sixteen marked
returns-clause-refusals c = refl
