use Rattle.std.specs.Prelude.{refl}
use Rattle.ec_sessions.specs.Slots.{sixteen}
use Rattle.ec_sessions.specs.Windows.{marked}
use Rattle.ec_runs.proofs.second_stops.shows_second_stops.Goals as goal

pub returns-clause-stop_8 : goal.returns-clause-stop_8
unfolding sixteen marked
returns-clause-stop_8 c = refl

pub returns-clause-stop_9 : goal.returns-clause-stop_9
unfolding sixteen marked
returns-clause-stop_9 c = refl

pub returns-clause-stop_10 : goal.returns-clause-stop_10
unfolding sixteen marked
returns-clause-stop_10 c = refl

pub returns-clause-stop_11 : goal.returns-clause-stop_11
unfolding sixteen marked
returns-clause-stop_11 c = refl

pub returns-clause-stop_12 : goal.returns-clause-stop_12
unfolding sixteen marked
returns-clause-stop_12 c = refl

pub returns-clause-stop_13 : goal.returns-clause-stop_13
unfolding sixteen marked
returns-clause-stop_13 c = refl

pub returns-clause-stop_14 : goal.returns-clause-stop_14
unfolding sixteen marked
returns-clause-stop_14 c = refl

pub returns-clause-stop_15 : goal.returns-clause-stop_15
unfolding sixteen marked
returns-clause-stop_15 c = refl
