use Rattle.ec_complete.proofs.ForLines.Shown.{agreed-may-go}
use Rattle.ec_complete.proofs.agreed_calls.agreed_calls_may_go.Goals as goal

pub returns : goal.returns
returns c = agreed-may-go
