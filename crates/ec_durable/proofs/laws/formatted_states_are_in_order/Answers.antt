use Rattle.ec_durable.proofs.Kept.{formatted_kept}
use Rattle.ec_durable.proofs.laws.formatted_states_are_in_order.Goals as goal

pub returns : goal.returns
returns c = formatted_kept
