use Rattle.std.specs.Prelude.{refl}
use Rattle.ec_sessions.specs.Slots.{sixteen}
use Rattle.ec_sessions.specs.Windows.{marked}
use Rattle.ec_runs.proofs.second_crashes.shows_second_crashes.Goals as goal

pub returns-clause-crash_8 : goal.returns-clause-crash_8
unfolding sixteen marked
returns-clause-crash_8 c = refl

pub returns-clause-crash_9 : goal.returns-clause-crash_9
unfolding sixteen marked
returns-clause-crash_9 c = refl

pub returns-clause-crash_10 : goal.returns-clause-crash_10
unfolding sixteen marked
returns-clause-crash_10 c = refl

pub returns-clause-crash_11 : goal.returns-clause-crash_11
unfolding sixteen marked
returns-clause-crash_11 c = refl

pub returns-clause-crash_12 : goal.returns-clause-crash_12
unfolding sixteen marked
returns-clause-crash_12 c = refl

pub returns-clause-crash_13 : goal.returns-clause-crash_13
unfolding sixteen marked
returns-clause-crash_13 c = refl

pub returns-clause-crash_14 : goal.returns-clause-crash_14
unfolding sixteen marked
returns-clause-crash_14 c = refl

pub returns-clause-crash_15 : goal.returns-clause-crash_15
unfolding sixteen marked
returns-clause-crash_15 c = refl
