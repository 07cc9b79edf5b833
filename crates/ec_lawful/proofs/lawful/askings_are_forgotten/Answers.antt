-- All facts of a step under way stand behind a forgotten asking.
use Rattle.std.proofs.Common.{◌≡◌}
use Rattle.ec_lawful.proofs.lawful.askings_are_forgotten.Goals as goal
use Rattle.ec_lawful.proofs.Forgets.{forgets}

pub returns : goal.returns
returns c g d b s e γ t lines within = forgets g d b s e γ t within lines
