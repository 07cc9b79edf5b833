use Rattle.ec_quiet.proofs.Opening.{opens}
use Rattle.ec_quiet.proofs.line_scenes.openings_are_idle.Goals as goal

pub returns : goal.returns
returns c most w e = opens most w e
