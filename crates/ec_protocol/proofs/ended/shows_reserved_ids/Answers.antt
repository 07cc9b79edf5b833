use Rattle.std.specs.Prelude.{refl}
use Rattle.ec_sessions.specs.Slots.{sixteen}
use Rattle.ec_sessions.specs.Windows.{marked}
use Rattle.ec_protocol.proofs.ended.shows_reserved_ids.Goals as goal

pub returns : goal.returns
unfolding sixteen marked
returns c = refl
