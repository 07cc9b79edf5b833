use Rattle.std.specs.Prelude.{refl}
use Rattle.ec_sessions.specs.Slots.{sixteen}
use Rattle.ec_sessions.specs.Windows.{marked}
use Rattle.ec_runs.proofs.first_plain.shows_first_plain.Goals as goal

pub returns-clause-plain_0 : goal.returns-clause-plain_0
unfolding sixteen marked
returns-clause-plain_0 c = refl

pub returns-clause-plain_1 : goal.returns-clause-plain_1
unfolding sixteen marked
returns-clause-plain_1 c = refl

pub returns-clause-plain_2 : goal.returns-clause-plain_2
unfolding sixteen marked
returns-clause-plain_2 c = refl

pub returns-clause-plain_3 : goal.returns-clause-plain_3
unfolding sixteen marked
returns-clause-plain_3 c = refl

pub returns-clause-plain_4 : goal.returns-clause-plain_4
unfolding sixteen marked
returns-clause-plain_4 c = refl

pub returns-clause-plain_5 : goal.returns-clause-plain_5
unfolding sixteen marked
returns-clause-plain_5 c = refl

pub returns-clause-plain_6 : goal.returns-clause-plain_6
unfolding sixteen marked
returns-clause-plain_6 c = refl

pub returns-clause-plain_7 : goal.returns-clause-plain_7
unfolding sixteen marked
returns-clause-plain_7 c = refl
