use Rattle.ec_quiet.proofs.OfDeliveries.Ordering.{batch-orderly, ids-orderly, open-orderly}
use Rattle.ec_quiet.proofs.deliveries.orderly.records_are_committed_in_order.Goals as goal

pub returns-clause-batch : goal.returns-clause-batch
returns-clause-batch c = batch-orderly

pub returns-clause-ids : goal.returns-clause-ids
returns-clause-ids c = ids-orderly

pub returns-clause-open : goal.returns-clause-open
returns-clause-open c = λ v clerks k age d o few runs closed ok. open-orderly v clerks k age d o few runs closed ok
