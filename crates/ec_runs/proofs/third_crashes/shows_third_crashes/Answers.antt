use Rattle.std.specs.Prelude.{refl}
use Rattle.ec_sessions.specs.Slots.{sixteen}
use Rattle.ec_sessions.specs.Windows.{marked}
use Rattle.ec_runs.proofs.third_crashes.shows_third_crashes.Goals as goal

pub returns-clause-crash_16 : goal.returns-clause-crash_16
unfolding sixteen marked
returns-clause-crash_16 c = refl

pub returns-clause-crash_17 : goal.returns-clause-crash_17
unfolding sixteen marked
returns-clause-crash_17 c = refl

pub returns-clause-crash_18 : goal.returns-clause-crash_18
unfolding sixteen marked
returns-clause-crash_18 c = refl

pub returns-clause-crash_19 : goal.returns-clause-crash_19
unfolding sixteen marked
returns-clause-crash_19 c = refl

pub returns-clause-crash_20 : goal.returns-clause-crash_20
unfolding sixteen marked
returns-clause-crash_20 c = refl

pub returns-clause-crash_21 : goal.returns-clause-crash_21
unfolding sixteen marked
returns-clause-crash_21 c = refl
