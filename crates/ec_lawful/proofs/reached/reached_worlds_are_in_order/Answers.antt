use Rattle.ec_lawful.proofs.Worlds.{reached-in-order}
use Rattle.ec_lawful.proofs.reached.reached_worlds_are_in_order.Goals as goal

pub returns : goal.returns
returns z d wf sixteen zero w r = reached-in-order d wf sixteen zero w r
