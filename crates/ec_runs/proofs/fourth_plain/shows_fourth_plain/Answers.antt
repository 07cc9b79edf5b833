use Rattle.std.specs.Prelude.{refl}
use Rattle.ec_sessions.specs.Slots.{sixteen}
use Rattle.ec_sessions.specs.Windows.{marked}
use Rattle.ec_runs.proofs.fourth_plain.shows_fourth_plain.Goals as goal

pub returns-clause-plain_22 : goal.returns-clause-plain_22
unfolding sixteen marked
returns-clause-plain_22 c = refl

pub returns-clause-plain_23 : goal.returns-clause-plain_23
unfolding sixteen marked
returns-clause-plain_23 c = refl

pub returns-clause-plain_24 : goal.returns-clause-plain_24
unfolding sixteen marked
returns-clause-plain_24 c = refl
