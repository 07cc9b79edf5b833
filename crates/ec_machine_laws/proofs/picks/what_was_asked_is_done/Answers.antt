use Rattle.ec_machine_laws.proofs.Picking.{done-before}
use Rattle.ec_machine_laws.proofs.picks.what_was_asked_is_done.Goals as goal

pub returns : goal.returns
returns c = done-before
