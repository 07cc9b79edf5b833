use Rattle.std.specs.Prelude.{refl}
use Rattle.ec_sessions.specs.Slots.{sixteen}
use Rattle.ec_sessions.specs.Windows.{marked}
use Rattle.ec_runs.proofs.second_network.shows_second_network.Goals as goal

pub returns-clause-net_8 : goal.returns-clause-net_8
unfolding sixteen marked
returns-clause-net_8 c = refl

pub returns-clause-net_9 : goal.returns-clause-net_9
unfolding sixteen marked
returns-clause-net_9 c = refl

pub returns-clause-net_10 : goal.returns-clause-net_10
unfolding sixteen marked
returns-clause-net_10 c = refl

pub returns-clause-net_11 : goal.returns-clause-net_11
unfolding sixteen marked
returns-clause-net_11 c = refl

pub returns-clause-net_12 : goal.returns-clause-net_12
unfolding sixteen marked
returns-clause-net_12 c = refl

pub returns-clause-net_13 : goal.returns-clause-net_13
unfolding sixteen marked
returns-clause-net_13 c = refl

pub returns-clause-net_14 : goal.returns-clause-net_14
unfolding sixteen marked
returns-clause-net_14 c = refl

pub returns-clause-net_15 : goal.returns-clause-net_15
unfolding sixteen marked
returns-clause-net_15 c = refl
