use Rattle.ec_machine_laws.proofs.Stepping.{claimed-twice}
use Rattle.ec_machine_laws.proofs.steps.second_claims_change_nothing.Goals as goal

pub returns : goal.returns
returns c = claimed-twice
