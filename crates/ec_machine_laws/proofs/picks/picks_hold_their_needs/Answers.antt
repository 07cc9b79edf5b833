use Rattle.ec_machine_laws.proofs.Picking.{pick-needs}
use Rattle.ec_machine_laws.proofs.picks.picks_hold_their_needs.Goals as goal

pub returns : goal.returns
returns c = pick-needs
