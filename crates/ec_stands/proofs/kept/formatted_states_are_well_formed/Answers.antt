use Rattle.ec_stands.proofs.Volumes.{formatted_well}
use Rattle.ec_stands.proofs.kept.formatted_states_are_well_formed.Goals as goal

pub returns : goal.returns
returns c = formatted_well
