use Rattle.ec_complete.proofs.OfAgreedLines.Within.{lines-within}
use Rattle.ec_complete.proofs.agreed_lines.agreed_closures.durable_lines_stay_in_closures.Goals as goal

pub returns : goal.returns
returns c = lines-within
