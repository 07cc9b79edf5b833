use Rattle.ec_quiet.proofs.Counted.{rows-fewer}
use Rattle.ec_quiet.proofs.bounds.rows_are_of_other_clerks.Goals as goal

pub returns : goal.returns
returns c = λ v clerks k s orderly runs own. rows-fewer v clerks orderly k s own runs
