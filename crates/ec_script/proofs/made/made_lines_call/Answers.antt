use Rattle.ec_script.proofs.OfMade.Made.{made-lines-call}
use Rattle.ec_script.proofs.made.made_lines_call.Goals as goal

pub returns : goal.returns
returns c = made-lines-call
