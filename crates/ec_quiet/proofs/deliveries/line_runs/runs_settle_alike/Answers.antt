use Rattle.ec_quiet.proofs.OfDeliveries.Running.{settles-alike}
use Rattle.ec_quiet.proofs.deliveries.line_runs.runs_settle_alike.Goals as goal

pub returns : goal.returns
returns z k fates m all = settles-alike k fates m all
