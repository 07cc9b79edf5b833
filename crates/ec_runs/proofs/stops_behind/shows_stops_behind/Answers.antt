use Rattle.std.specs.Prelude.{refl}
use Rattle.ec_sessions.specs.Slots.{sixteen}
use Rattle.ec_sessions.specs.Windows.{marked}
use Rattle.ec_runs.proofs.stops_behind.shows_stops_behind.Goals as goal

pub returns-clause-call_1_new : goal.returns-clause-call_1_new
unfolding sixteen marked
returns-clause-call_1_new c = refl

pub returns-clause-call_2_new : goal.returns-clause-call_2_new
unfolding sixteen marked
returns-clause-call_2_new c = refl

pub returns-clause-call_3_new : goal.returns-clause-call_3_new
unfolding sixteen marked
returns-clause-call_3_new c = refl

pub returns-clause-call_4_new : goal.returns-clause-call_4_new
unfolding sixteen marked
returns-clause-call_4_new c = refl

pub returns-clause-call_5_new : goal.returns-clause-call_5_new
unfolding sixteen marked
returns-clause-call_5_new c = refl

pub returns-clause-call_6_new : goal.returns-clause-call_6_new
unfolding sixteen marked
returns-clause-call_6_new c = refl

pub returns-clause-call_7_new : goal.returns-clause-call_7_new
unfolding sixteen marked
returns-clause-call_7_new c = refl

pub returns-clause-call_8_new : goal.returns-clause-call_8_new
unfolding sixteen marked
returns-clause-call_8_new c = refl
