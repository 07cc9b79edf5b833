use Rattle.std.specs.Prelude.{refl}
use Rattle.ec_sessions.specs.Slots.{sixteen}
use Rattle.ec_sessions.specs.Windows.{marked}
use Rattle.ec_lease_machine.proofs.lease_runs.stops.shows_stops.Goals as goal

pub returns-clause-stop_0 : goal.returns-clause-stop_0
unfolding sixteen marked
returns-clause-stop_0 c = refl

pub returns-clause-stop_1 : goal.returns-clause-stop_1
unfolding sixteen marked
returns-clause-stop_1 c = refl

pub returns-clause-stop_2 : goal.returns-clause-stop_2
unfolding sixteen marked
returns-clause-stop_2 c = refl

pub returns-clause-stop_3 : goal.returns-clause-stop_3
unfolding sixteen marked
returns-clause-stop_3 c = refl

pub returns-clause-stop_4 : goal.returns-clause-stop_4
unfolding sixteen marked
returns-clause-stop_4 c = refl

pub returns-clause-stop_5 : goal.returns-clause-stop_5
unfolding sixteen marked
returns-clause-stop_5 c = refl

pub returns-clause-stop_6 : goal.returns-clause-stop_6
unfolding sixteen marked
returns-clause-stop_6 c = refl

pub returns-clause-stop_7 : goal.returns-clause-stop_7
unfolding sixteen marked
returns-clause-stop_7 c = refl

pub returns-clause-stop_8 : goal.returns-clause-stop_8
unfolding sixteen marked
returns-clause-stop_8 c = refl

pub returns-clause-stop_9 : goal.returns-clause-stop_9
unfolding sixteen marked
returns-clause-stop_9 c = refl
