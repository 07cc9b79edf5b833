use Rattle.ec_lawful.proofs.ForWhole.Server.{ends-whole, takes-whole}
use Rattle.ec_lawful.proofs.whole.servers_keep_all_facts.Goals as goal

pub returns : goal.returns
returns z g v w up = (takes-whole g v w up, ends-whole g v w up)
