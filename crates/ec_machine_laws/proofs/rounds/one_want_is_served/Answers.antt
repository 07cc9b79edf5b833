use Rattle.ec_machine_laws.proofs.Wanting.{serve-granted, serve-recalled}
use Rattle.ec_machine_laws.proofs.rounds.one_want_is_served.Goals as goal

pub returns-clause-granted : goal.returns-clause-granted
returns-clause-granted c = serve-granted

pub returns-clause-recalled : goal.returns-clause-recalled
returns-clause-recalled c = serve-recalled
