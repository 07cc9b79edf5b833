use Rattle.std.specs.Prelude.{refl}
use Rattle.ec_sessions.specs.Slots.{sixteen}
use Rattle.ec_sessions.specs.Windows.{marked}
use Rattle.ec_runs.proofs.stops_before.shows_stops_before.Goals as goal

pub returns-clause-call_1_old : goal.returns-clause-call_1_old
unfolding sixteen marked
returns-clause-call_1_old c = refl

pub returns-clause-call_2_old : goal.returns-clause-call_2_old
unfolding sixteen marked
returns-clause-call_2_old c = refl

pub returns-clause-call_3_old : goal.returns-clause-call_3_old
unfolding sixteen marked
returns-clause-call_3_old c = refl

pub returns-clause-call_4_old : goal.returns-clause-call_4_old
unfolding sixteen marked
returns-clause-call_4_old c = refl

pub returns-clause-call_5_old : goal.returns-clause-call_5_old
unfolding sixteen marked
returns-clause-call_5_old c = refl

pub returns-clause-call_6_old : goal.returns-clause-call_6_old
unfolding sixteen marked
returns-clause-call_6_old c = refl

pub returns-clause-call_7_old : goal.returns-clause-call_7_old
unfolding sixteen marked
returns-clause-call_7_old c = refl

pub returns-clause-call_8_old : goal.returns-clause-call_8_old
unfolding sixteen marked
returns-clause-call_8_old c = refl
