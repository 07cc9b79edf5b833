use Rattle.std.specs.Prelude.{refl}
use Rattle.ec_sessions.specs.Slots.{sixteen}
use Rattle.ec_sessions.specs.Windows.{marked}
use Rattle.ec_lease_machine.proofs.lease_runs.crashes.shows_crashes.Goals as goal

pub returns-clause-crash_0 : goal.returns-clause-crash_0
unfolding sixteen marked
returns-clause-crash_0 c = refl

pub returns-clause-crash_1 : goal.returns-clause-crash_1
unfolding sixteen marked
returns-clause-crash_1 c = refl

pub returns-clause-crash_2 : goal.returns-clause-crash_2
unfolding sixteen marked
returns-clause-crash_2 c = refl

pub returns-clause-crash_3 : goal.returns-clause-crash_3
unfolding sixteen marked
returns-clause-crash_3 c = refl

pub returns-clause-crash_4 : goal.returns-clause-crash_4
unfolding sixteen marked
returns-clause-crash_4 c = refl

pub returns-clause-crash_5 : goal.returns-clause-crash_5
unfolding sixteen marked
returns-clause-crash_5 c = refl

pub returns-clause-crash_6 : goal.returns-clause-crash_6
unfolding sixteen marked
returns-clause-crash_6 c = refl

pub returns-clause-crash_7 : goal.returns-clause-crash_7
unfolding sixteen marked
returns-clause-crash_7 c = refl

pub returns-clause-crash_8 : goal.returns-clause-crash_8
unfolding sixteen marked
returns-clause-crash_8 c = refl

pub returns-clause-crash_9 : goal.returns-clause-crash_9
unfolding sixteen marked
returns-clause-crash_9 c = refl
