use Rattle.std.specs.Prelude.{refl}
use Rattle.ec_sessions.specs.Slots.{sixteen}
use Rattle.ec_sessions.specs.Windows.{marked}
use Rattle.ec_runs.proofs.third_network.shows_third_network.Goals as goal

pub returns-clause-net_16 : goal.returns-clause-net_16
unfolding sixteen marked
returns-clause-net_16 c = refl

pub returns-clause-net_17 : goal.returns-clause-net_17
unfolding sixteen marked
returns-clause-net_17 c = refl

pub returns-clause-net_18 : goal.returns-clause-net_18
unfolding sixteen marked
returns-clause-net_18 c = refl

pub returns-clause-net_19 : goal.returns-clause-net_19
unfolding sixteen marked
returns-clause-net_19 c = refl

pub returns-clause-net_20 : goal.returns-clause-net_20
unfolding sixteen marked
returns-clause-net_20 c = refl

pub returns-clause-net_21 : goal.returns-clause-net_21
unfolding sixteen marked
returns-clause-net_21 c = refl
