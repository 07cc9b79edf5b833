use Rattle.ec_history.specs.Legal.{from_formatted}
use Rattle.ec_runs.specs.OfRows.Ended.{ended_behind_restart}
use Rattle.ec_runs.proofs.OfRows.Tests.{covered_by_test}
use Rattle.ec_runs.proofs.rows.ended.accepts_ended_behind_restart.Goals as goal

pub returns-clause-covered : goal.returns-clause-covered
returns-clause-covered c = covered_by_test from_formatted ended_behind_restart tt
