use Rattle.ec_complete.proofs.OfAgreedLines.CallsGo.{may-go}
use Rattle.ec_complete.proofs.agreed_lines.clerk_calls.calls_may_go.Goals as goal

pub returns : goal.returns
returns c j w k v i s = may-go j w k v i s
