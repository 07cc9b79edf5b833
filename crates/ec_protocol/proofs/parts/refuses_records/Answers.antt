use Rattle.std.specs.Prelude.{refl}
use Rattle.ec_sessions.specs.Slots.{sixteen}
use Rattle.ec_sessions.specs.Windows.{marked}
use Rattle.ec_protocol.proofs.parts.refuses_records.Goals as goal

pub returns-clause-not_reserved : goal.returns-clause-not_reserved
unfolding sixteen marked
returns-clause-not_reserved c = refl

pub returns-clause-done : goal.returns-clause-done
unfolding sixteen marked
returns-clause-done c = refl

pub returns-clause-unfit : goal.returns-clause-unfit
unfolding sixteen marked
returns-clause-unfit c = refl
