use Rattle.ec_complete.proofs.OfAgreedLines.Beginning.{begins}
use Rattle.ec_complete.proofs.agreed_lines.clerk_lines.calls_begin.Goals as goal

pub returns : goal.returns
returns c j sc sl k cl idle is counted may = begins j sc sl k cl idle is counted may
