use Rattle.ec_quiet.proofs.Idle.{all-idle}
use Rattle.ec_quiet.proofs.scenes.ends_are_idle.Goals as goal

pub returns : goal.returns
returns c j sc p q e = all-idle j sc e p q
