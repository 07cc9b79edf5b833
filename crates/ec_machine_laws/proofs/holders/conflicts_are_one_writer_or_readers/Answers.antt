use Rattle.ec_machine_laws.proofs.Calm.{reader-conflicts, writer-conflicts}
use Rattle.ec_machine_laws.proofs.holders.conflicts_are_one_writer_or_readers.Goals as goal

pub returns-clause-reading : goal.returns-clause-reading
returns-clause-reading c = reader-conflicts

pub returns-clause-writing : goal.returns-clause-writing
returns-clause-writing c = writer-conflicts
