use Rattle.std.proofs.Common.{refl, inl, [], ◌∷◌}
use Rattle.std.specs.Prelude.{codes}
use Rattle.ec_volume.specs.declared.image.Kind.TheVariants as kind
use Rattle.ec_volume.specs.declared.update.Update.TheVariants as update
use Rattle.ec_order.specs.Order.{ask}
use Rattle.ec_history.specs.Legal.{from_formatted}
use Rattle.ec_history.specs.declared.shown.Shown.TheVariants.{Durable}
use Rattle.ec_runs.specs.OfRows.Clerks.{A}
use Rattle.ec_runs.specs.OfRows.WrongLosses.{fsync_of_second_start}
use Rattle.ec_runs.proofs.OfRows.Tests.{covered_by_test}
use Rattle.ec_runs.proofs.rows.wrong_losses.refuses_durable_of_other_start.Goals as goal

pub returns-clause-covered : goal.returns-clause-covered
returns-clause-covered c = covered_by_test from_formatted (fsync_of_second_start (Durable A (1 ∷ []) ∷ [])) tt

-- the fsync covers the create of its start
pub returns-clause-uncovered : goal.returns-clause-uncovered
returns-clause-uncovered c h = h.1.1.1.1.0 1 (record { own = tt; closed_in = ask 1 (update.Make 1 (codes "g") 10 kind.File) (inl (refl, refl)) tt; not_lost = tt })
