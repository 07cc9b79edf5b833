use Rattle.ec_quiet.proofs.OfDeliveries.Fine.{fine}
use Rattle.ec_quiet.proofs.deliveries.line_runs.deliveries_meet_no_limit.Goals as goal

pub returns : goal.returns
returns z j w sc p t rest n i q can head due far = fine j w sc p t rest i q can head far n due
