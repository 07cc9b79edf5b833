use Rattle.std.proofs.Common.{false, refl, inl, inr, [], ◌∷◌}
use Rattle.std.specs.Prelude.{codes}
use Rattle.ec_volume.specs.declared.update.Update.TheVariants as update
use Rattle.ec_order.specs.Order.{ask}
use Rattle.ec_history.specs.Legal.{from_formatted}
use Rattle.ec_history.specs.declared.shown.Shown.TheVariants.{Durable}
use Rattle.ec_runs.specs.OfRows.Clerks.{A}
use Rattle.ec_runs.specs.OfRows.WrongLosses.{fsync_over_lost}
use Rattle.ec_runs.proofs.OfRows.Tests.{covered_by_test}
use Rattle.ec_runs.proofs.rows.wrong_losses.refuses_fsync_without_write.Goals as goal

pub returns-clause-covered : goal.returns-clause-covered
returns-clause-covered c = covered_by_test from_formatted (fsync_over_lost (Durable A (4 ∷ []) ∷ [])) tt

-- the fsync covers the write
pub returns-clause-uncovered : goal.returns-clause-uncovered
returns-clause-uncovered c h = h.1.1.1.1.1.1.1.0 4 (record { own = tt; closed_in = ask 4 (update.Put 3 0 (codes "x") false) (inr (inr (inr (inl (refl, refl))))) tt; not_lost = tt })
