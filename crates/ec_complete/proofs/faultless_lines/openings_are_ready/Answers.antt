use Rattle.ec_complete.proofs.ForFaultless.Opening.{new-ready, openings-ready}
use Rattle.ec_complete.proofs.faultless_lines.openings_are_ready.Goals as goal

pub returns-clause-old : goal.returns-clause-old
returns-clause-old c = openings-ready

pub returns-clause-new : goal.returns-clause-new
returns-clause-new c = new-ready
