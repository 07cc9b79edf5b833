use Rattle.ec_history.specs.Legal.{from_formatted}
use Rattle.ec_runs.specs.OfRows.Alone.{repeated_batch}
use Rattle.ec_runs.proofs.OfRows.Tests.{covered_by_test}
use Rattle.ec_runs.proofs.rows.alone.accepts_repeated_batch.Goals as goal

pub returns-clause-covered : goal.returns-clause-covered
returns-clause-covered c = covered_by_test from_formatted repeated_batch tt
