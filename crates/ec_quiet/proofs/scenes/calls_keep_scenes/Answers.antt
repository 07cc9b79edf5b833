use Rattle.ec_quiet.proofs.Calling.{called}
use Rattle.ec_quiet.proofs.scenes.calls_keep_scenes.Goals as goal

pub returns : goal.returns
returns z w sc c line cl k i e f = called w sc i c line cl k e f
