use Rattle.ec_quiet.proofs.OfDeliveries.ForWriteBehind.Worked.{own-wait}
use Rattle.ec_quiet.proofs.deliveries.write_behind.own_operations_wait.Goals as goal

pub returns : goal.returns
returns c = own-wait
