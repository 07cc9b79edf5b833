use Rattle.std.proofs.Common.{refl, []}
use Rattle.ec_history.specs.Legal.{from_formatted}
use Rattle.ec_history.specs.Placing.{place}
use Rattle.ec_runs.specs.OfRows.Long.{renamed_files}
use Rattle.ec_runs.proofs.OfRows.LongRows.{placeable_by_test, legal_by_test}
use Rattle.ec_runs.proofs.rows.long.accepts_renamed_files.Goals as goal

pub returns-clause-placeable : goal.returns-clause-placeable
returns-clause-placeable c = placeable_by_test [] renamed_files tt

pub returns-clause-legal : goal.returns-clause-legal
returns-clause-legal c = legal_by_test from_formatted 1024 121 (place renamed_files) tt (record { number = tt; report = refl; room = tt; reply = (refl, refl) }, tt)
