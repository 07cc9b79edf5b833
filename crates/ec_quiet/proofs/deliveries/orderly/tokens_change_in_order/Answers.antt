use Rattle.ec_quiet.proofs.OfDeliveries.Ordering.{wants-orderly, grant-orderly, back-orderly}
use Rattle.ec_quiet.proofs.deliveries.orderly.tokens_change_in_order.Goals as goal

pub returns-clause-wants : goal.returns-clause-wants
returns-clause-wants c = wants-orderly

pub returns-clause-grant : goal.returns-clause-grant
returns-clause-grant c = grant-orderly

pub returns-clause-back : goal.returns-clause-back
returns-clause-back c = back-orderly
