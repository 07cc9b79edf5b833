use Rattle.std.specs.Prelude.{refl}
use Rattle.ec_sessions.specs.Slots.{sixteen}
use Rattle.ec_sessions.specs.Windows.{marked}
use Rattle.ec_runs.proofs.fourth_stops.shows_fourth_stops.Goals as goal

pub returns-clause-stop_22 : goal.returns-clause-stop_22
unfolding sixteen marked
returns-clause-stop_22 c = refl

pub returns-clause-stop_23 : goal.returns-clause-stop_23
unfolding sixteen marked
returns-clause-stop_23 c = refl

pub returns-clause-stop_24 : goal.returns-clause-stop_24
unfolding sixteen marked
returns-clause-stop_24 c = refl
