use Rattle.ec_servernode.proofs.Served.{peer_else}
use Rattle.ec_servernode.proofs.shared.refused.Goals as goal

pub returns-in_default : goal.returns-in_default
returns-in_default c = peer_else c.args.fault c.in_default.not-NoMemory
