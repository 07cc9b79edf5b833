use Rattle.std.specs.Prelude.{refl}
use Rattle.ec_sessions.specs.Slots.{sixteen}
use Rattle.ec_sessions.specs.Windows.{marked}
use Rattle.ec_runs.proofs.fourth_crashes.shows_fourth_crashes.Goals as goal

pub returns-clause-crash_22 : goal.returns-clause-crash_22
unfolding sixteen marked
returns-clause-crash_22 c = refl

pub returns-clause-crash_23 : goal.returns-clause-crash_23
unfolding sixteen marked
returns-clause-crash_23 c = refl

pub returns-clause-crash_24 : goal.returns-clause-crash_24
unfolding sixteen marked
returns-clause-crash_24 c = refl
