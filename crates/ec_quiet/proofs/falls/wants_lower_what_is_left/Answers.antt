use Rattle.ec_quiet.proofs.Falling.{want-granted, want-noted}
use Rattle.ec_quiet.proofs.falls.wants_lower_what_is_left.Goals as goal

pub returns-clause-granted : goal.returns-clause-granted
returns-clause-granted c = want-granted

pub returns-clause-noted : goal.returns-clause-noted
returns-clause-noted c = want-noted
