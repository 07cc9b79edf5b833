use Rattle.ec_coherence.proofs.TakesAny.{end-stands, takes-any}
use Rattle.ec_coherence.proofs.ends.running_servers_keep_all.Goals as goal

pub returns-clause-takes : goal.returns-clause-takes
returns-clause-takes z g v whole up c m p = takes-any g v whole up c m p

pub returns-clause-end : goal.returns-clause-end
returns-clause-end z g v whole up c = end-stands g v whole up c
