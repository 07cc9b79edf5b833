use Rattle.ec_quiet.proofs.OfDeliveries.Windowed.{next-new, next-moved}
use Rattle.ec_quiet.proofs.deliveries.windows.next_batches_move_windows.Goals as goal

pub returns-clause-new : goal.returns-clause-new
returns-clause-new c = next-new

pub returns-clause-moved : goal.returns-clause-moved
returns-clause-moved c = next-moved
