use Rattle.ec_lawful.proofs.Tries.{answers-show, tries-show}
use Rattle.ec_lawful.proofs.lawful.tries_tell.Goals as goal

pub returns-clause-tried : goal.returns-clause-tried
returns-clause-tried z g c b = tries-show g c b

pub returns-clause-answered : goal.returns-clause-answered
returns-clause-answered z g c b = answers-show g c b
