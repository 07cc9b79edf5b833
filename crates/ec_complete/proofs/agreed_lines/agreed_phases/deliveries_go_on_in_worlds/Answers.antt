use Rattle.ec_complete.proofs.OfAgreedLines.Suited.{worlds-go-on}
use Rattle.ec_complete.proofs.agreed_lines.agreed_phases.deliveries_go_on_in_worlds.Goals as goal

pub returns : goal.returns
returns c = worlds-go-on
