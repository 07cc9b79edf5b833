use Rattle.std.specs.Prelude.{refl}
use Rattle.ec_sessions.specs.Slots.{sixteen}
use Rattle.ec_sessions.specs.Windows.{marked}
use Rattle.ec_runs.proofs.fourth_network.shows_fourth_network.Goals as goal

pub returns-clause-net_22 : goal.returns-clause-net_22
unfolding sixteen marked
returns-clause-net_22 c = refl

pub returns-clause-net_23 : goal.returns-clause-net_23
unfolding sixteen marked
returns-clause-net_23 c = refl

pub returns-clause-net_24 : goal.returns-clause-net_24
unfolding sixteen marked
returns-clause-net_24 c = refl
