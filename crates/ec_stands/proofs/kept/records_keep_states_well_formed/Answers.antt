use Rattle.ec_stands.proofs.Volumes.{step_well, steps_well}
use Rattle.ec_stands.proofs.kept.records_keep_states_well_formed.Goals as goal

pub returns-clause-step : goal.returns-clause-step
returns-clause-step c = step_well

pub returns-clause-steps : goal.returns-clause-steps
returns-clause-steps c = steps_well
