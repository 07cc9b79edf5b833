use Rattle.ec_machine_laws.proofs.Promising.{fsync-covers, sync-covers}
use Rattle.ec_machine_laws.proofs.covers.covered_operations_are_done.Goals as goal

pub returns-clause-fsync : goal.returns-clause-fsync
returns-clause-fsync c = fsync-covers

pub returns-clause-sync : goal.returns-clause-sync
returns-clause-sync c = sync-covers
