use Rattle.ec_lawful.proofs.ForAsked.Agreeing.{steps-stay}
use Rattle.ec_lawful.proofs.asked.nobody_says_goodbye.Goals as goal

pub returns : goal.returns
returns z first g a = steps-stay first g a
