use Rattle.std.specs.Prelude.{refl}
use Rattle.ec_sessions.specs.Slots.{sixteen}
use Rattle.ec_sessions.specs.Windows.{marked}
use Rattle.ec_runs.proofs.third_stops.shows_third_stops.Goals as goal

pub returns-clause-stop_16 : goal.returns-clause-stop_16
unfolding sixteen marked
returns-clause-stop_16 c = refl

pub returns-clause-stop_17 : goal.returns-clause-stop_17
unfolding sixteen marked
returns-clause-stop_17 c = refl

pub returns-clause-stop_18 : goal.returns-clause-stop_18
unfolding sixteen marked
returns-clause-stop_18 c = refl

pub returns-clause-stop_19 : goal.returns-clause-stop_19
unfolding sixteen marked
returns-clause-stop_19 c = refl

pub returns-clause-stop_20 : goal.returns-clause-stop_20
unfolding sixteen marked
returns-clause-stop_20 c = refl

pub returns-clause-stop_21 : goal.returns-clause-stop_21
unfolding sixteen marked
returns-clause-stop_21 c = refl
