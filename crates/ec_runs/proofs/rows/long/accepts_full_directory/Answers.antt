use Rattle.std.proofs.Common.{refl, []}
use Rattle.ec_history.specs.Legal.{from_formatted}
use Rattle.ec_history.specs.Placing.{place}
use Rattle.ec_runs.specs.OfRows.Long.{full_directory}
use Rattle.ec_runs.proofs.OfRows.LongRows.{placeable_by_test, legal_by_test}
use Rattle.ec_runs.proofs.rows.long.accepts_full_directory.Goals as goal

pub returns-clause-placeable : goal.returns-clause-placeable
returns-clause-placeable c = placeable_by_test [] full_directory tt

pub returns-clause-legal : goal.returns-clause-legal
returns-clause-legal c =
    legal_by_test from_formatted 1024 129 (place full_directory) tt (
      record { number = tt; report = refl; room = tt; reply = (refl, refl) },
      (
        record { number = refl; report = refl; room = tt; reply = (refl, refl) },
        (
          record { number = refl; report = refl; room = tt; reply = (refl, refl) },
          (record { number = refl; report = refl; room = tt; reply = (refl, refl) }, tt),
        ),
      ),
    )
