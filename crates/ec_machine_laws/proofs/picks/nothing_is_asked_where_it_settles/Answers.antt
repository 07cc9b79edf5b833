use Rattle.ec_machine_laws.proofs.Picking.{settled-where}
use Rattle.ec_machine_laws.proofs.picks.nothing_is_asked_where_it_settles.Goals as goal

pub returns : goal.returns
returns c = settled-where
