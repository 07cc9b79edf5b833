use Rattle.ec_judge.proofs.Firsts.{excludes, legal}
use Rattle.ec_judge.proofs.laws.legal_is_without_fault.Goals as goal

pub returns-clause-excludes : goal.returns-clause-excludes
returns-clause-excludes c = excludes

pub returns-clause-legal : goal.returns-clause-legal
returns-clause-legal c = legal
