use Rattle.ec_lawful.proofs.ForWhole.Opens.{world-stands}
use Rattle.ec_lawful.proofs.ForWhole.OpensWhole.{opened-whole}
use Rattle.ec_lawful.proofs.opening.disks_open_whole.Goals as goal

pub returns : goal.returns
returns z d wf sixteen zero w o = (opened-whole d wf sixteen zero, world-stands d sixteen w o)
