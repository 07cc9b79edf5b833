use Rattle.ec_history.specs.Legal.{from_formatted}
use Rattle.ec_runs.specs.OfRows.Durable.{disjoint_overwrites}
use Rattle.ec_runs.proofs.OfRows.Tests.{covered_by_test}
use Rattle.ec_runs.proofs.rows.durable.accepts_disjoint_overwrites.Goals as goal

pub returns-clause-covered : goal.returns-clause-covered
returns-clause-covered c = covered_by_test from_formatted disjoint_overwrites tt
