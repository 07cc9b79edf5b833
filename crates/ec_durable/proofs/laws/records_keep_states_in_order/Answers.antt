use Rattle.ec_durable.proofs.Kept.{step_kept, steps_kept, below_kept}
use Rattle.ec_durable.proofs.laws.records_keep_states_in_order.Goals as goal

pub returns-clause-step : goal.returns-clause-step
returns-clause-step c = step_kept

pub returns-clause-steps : goal.returns-clause-steps
returns-clause-steps c = steps_kept

pub returns-clause-below : goal.returns-clause-below
returns-clause-below c = below_kept
