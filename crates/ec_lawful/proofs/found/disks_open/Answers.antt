use Rattle.ec_lawful.proofs.ForWhole.Olds.{opened-all}
use Rattle.ec_lawful.proofs.ForWhole.Opens.{world-stands}
use Rattle.ec_lawful.proofs.ForWhole.Volumes.{entries-known, known-id, volumes-are-bases, volumes-have-greatest}
use Rattle.ec_lawful.proofs.found.disks_open.Goals as goal

pub returns-clause-opens : goal.returns-clause-opens
returns-clause-opens z d wf sixteen w o = (opened-all d wf sixteen, world-stands d sixteen w o)

pub returns-clause-bases : goal.returns-clause-bases
returns-clause-bases z v wf n most = volumes-are-bases v wf n most

pub returns-clause-greatest : goal.returns-clause-greatest
returns-clause-greatest z d wf = volumes-have-greatest d wf

pub returns-clause-ids : goal.returns-clause-ids
returns-clause-ids z d wf x = (known-id d wf x, entries-known d wf x)
