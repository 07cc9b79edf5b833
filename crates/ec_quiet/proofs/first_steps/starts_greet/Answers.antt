use Rattle.ec_quiet.proofs.Starting.{greets}
use Rattle.ec_quiet.proofs.first_steps.starts_greet.Goals as goal

pub returns : goal.returns
returns c j sc boot cl idle is = greets j sc boot cl idle is
