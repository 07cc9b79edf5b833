use Rattle.ec_history.specs.Legal.{from_formatted}
use Rattle.ec_runs.specs.OfRows.Durable.{moved_directories}
use Rattle.ec_runs.proofs.OfRows.Tests.{covered_by_test}
use Rattle.ec_runs.proofs.rows.durable.accepts_moved_directories.Goals as goal

pub returns-clause-covered : goal.returns-clause-covered
returns-clause-covered c = covered_by_test from_formatted moved_directories tt
