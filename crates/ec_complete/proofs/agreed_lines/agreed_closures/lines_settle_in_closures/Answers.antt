use Rattle.ec_complete.proofs.OfAgreedLines.Settled.{lines-settle}
use Rattle.ec_complete.proofs.agreed_lines.agreed_closures.lines_settle_in_closures.Goals as goal

pub returns : goal.returns
returns c = lines-settle
