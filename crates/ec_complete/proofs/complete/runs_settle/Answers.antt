use Rattle.ec_complete.proofs.ForLines.Beginning.{runs-settle}
use Rattle.ec_complete.proofs.complete.runs_settle.Goals as goal

pub returns : goal.returns
returns z = runs-settle
