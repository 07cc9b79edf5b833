use Rattle.ec_machine_laws.proofs.Serving.{takes}
use Rattle.ec_machine_laws.proofs.unspent.servers_spend_nothing.Goals as goal

pub returns : goal.returns
returns z c m v room l = takes c m v room l
