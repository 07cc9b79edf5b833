use Rattle.std.specs.Prelude.{refl}
use Rattle.ec_sessions.specs.Slots.{sixteen}
use Rattle.ec_sessions.specs.Windows.{marked}
use Rattle.ec_lease_machine.proofs.lease_runs.network.shows_network.Goals as goal

pub returns-clause-net_0 : goal.returns-clause-net_0
unfolding sixteen marked
returns-clause-net_0 c = refl

pub returns-clause-net_1 : goal.returns-clause-net_1
unfolding sixteen marked
returns-clause-net_1 c = refl

pub returns-clause-net_2 : goal.returns-clause-net_2
unfolding sixteen marked
returns-clause-net_2 c = refl

pub returns-clause-net_3 : goal.returns-clause-net_3
unfolding sixteen marked
returns-clause-net_3 c = refl

pub returns-clause-net_4 : goal.returns-clause-net_4
unfolding sixteen marked
returns-clause-net_4 c = refl

pub returns-clause-net_5 : goal.returns-clause-net_5
unfolding sixteen marked
returns-clause-net_5 c = refl

pub returns-clause-net_6 : goal.returns-clause-net_6
unfolding sixteen marked
returns-clause-net_6 c = refl

pub returns-clause-net_7 : goal.returns-clause-net_7
unfolding sixteen marked
returns-clause-net_7 c = refl

pub returns-clause-net_8 : goal.returns-clause-net_8
unfolding sixteen marked
returns-clause-net_8 c = refl

pub returns-clause-net_9 : goal.returns-clause-net_9
unfolding sixteen marked
returns-clause-net_9 c = refl
