use Rattle.ec_judge.proofs.Firsts.{single}
use Rattle.ec_judge.proofs.laws.faults_are_single.Goals as goal

pub returns : goal.returns
returns c = single
