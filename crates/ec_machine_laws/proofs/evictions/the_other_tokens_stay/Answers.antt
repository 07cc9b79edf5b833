use Rattle.ec_machine_laws.proofs.Evicting.{stays-held, goes-back, order-stays}
use Rattle.ec_machine_laws.proofs.evictions.the_other_tokens_stay.Goals as goal

pub returns-clause-stay : goal.returns-clause-stay
returns-clause-stay c = stays-held

pub returns-clause-go : goal.returns-clause-go
returns-clause-go c = goes-back

pub returns-clause-order : goal.returns-clause-order
returns-clause-order c = order-stays
