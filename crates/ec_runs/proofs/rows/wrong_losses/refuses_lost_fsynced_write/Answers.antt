use Rattle.std.proofs.Common.{false, refl, inl, inr}
use Rattle.std.specs.Prelude.{codes}
use Rattle.ec_volume.specs.declared.update.Update.TheVariants as update
use Rattle.ec_order.specs.Order.{ask}
use Rattle.ec_runs.proofs.rows.wrong_losses.refuses_lost_fsynced_write.Goals as goal

-- the fsync covers the write
pub returns-clause-illegal : goal.returns-clause-illegal
returns-clause-illegal c h = (h.1.1.1.1.0).uncovered.1.1.1.0.1.0 (record { own = tt; closed_in = ask 3 (update.Put 3 0 (codes "x") false) (inr (inr (inl (refl, refl)))) tt; not_lost = tt })
