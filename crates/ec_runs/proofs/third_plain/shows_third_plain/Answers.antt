use Rattle.std.specs.Prelude.{refl}
use Rattle.ec_sessions.specs.Slots.{sixteen}
use Rattle.ec_sessions.specs.Windows.{marked}
use Rattle.ec_runs.proofs.third_plain.shows_third_plain.Goals as goal

pub returns-clause-plain_16 : goal.returns-clause-plain_16
unfolding sixteen marked
returns-clause-plain_16 c = refl

pub returns-clause-plain_17 : goal.returns-clause-plain_17
unfolding sixteen marked
returns-clause-plain_17 c = refl

pub returns-clause-plain_18 : goal.returns-clause-plain_18
unfolding sixteen marked
returns-clause-plain_18 c = refl

pub returns-clause-plain_19 : goal.returns-clause-plain_19
unfolding sixteen marked
returns-clause-plain_19 c = refl

pub returns-clause-plain_20 : goal.returns-clause-plain_20
unfolding sixteen marked
returns-clause-plain_20 c = refl

pub returns-clause-plain_21 : goal.returns-clause-plain_21
unfolding sixteen marked
returns-clause-plain_21 c = refl
