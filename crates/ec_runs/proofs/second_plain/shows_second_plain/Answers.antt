use Rattle.std.specs.Prelude.{refl}
use Rattle.ec_sessions.specs.Slots.{sixteen}
use Rattle.ec_sessions.specs.Windows.{marked}
use Rattle.ec_runs.proofs.second_plain.shows_second_plain.Goals as goal

pub returns-clause-plain_8 : goal.returns-clause-plain_8
unfolding sixteen marked
returns-clause-plain_8 c = refl

pub returns-clause-plain_9 : goal.returns-clause-plain_9
unfolding sixteen marked
returns-clause-plain_9 c = refl

pub returns-clause-plain_10 : goal.returns-clause-plain_10
unfolding sixteen marked
returns-clause-plain_10 c = refl

pub returns-clause-plain_11 : goal.returns-clause-plain_11
unfolding sixteen marked
returns-clause-plain_11 c = refl

pub returns-clause-plain_12 : goal.returns-clause-plain_12
unfolding sixteen marked
returns-clause-plain_12 c = refl

pub returns-clause-plain_13 : goal.returns-clause-plain_13
unfolding sixteen marked
returns-clause-plain_13 c = refl

pub returns-clause-plain_14 : goal.returns-clause-plain_14
unfolding sixteen marked
returns-clause-plain_14 c = refl

pub returns-clause-plain_15 : goal.returns-clause-plain_15
unfolding sixteen marked
returns-clause-plain_15 c = refl
