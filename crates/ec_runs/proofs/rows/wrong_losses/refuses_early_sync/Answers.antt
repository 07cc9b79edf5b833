use Rattle.std.proofs.Common.{refl, inl, inr}
use Rattle.std.specs.Prelude.{codes}
use Rattle.ec_volume.specs.declared.image.Kind.TheVariants as kind
use Rattle.ec_volume.specs.declared.update.Update.TheVariants as update
use Rattle.ec_order.specs.Order.{ask}
use Rattle.ec_runs.proofs.rows.wrong_losses.refuses_early_sync.Goals as goal

-- the sync covers the second create
pub returns-clause-early_illegal : goal.returns-clause-early_illegal
returns-clause-early_illegal c h = (h.1.1.1.0).uncovered.1.1.0.0 (record { own = tt; closed_in = ask 2 (update.Make 1 (codes "g") 4 kind.File) (inr (inl (refl, refl))) tt; not_lost = tt })

pub returns-clause-early_uncovered : goal.returns-clause-early_uncovered
returns-clause-early_uncovered c h = h.1.1.0 2 (record { own = tt; closed_in = ask 2 (update.Make 1 (codes "g") 4 kind.File) (inr (inl (refl, refl))) tt; not_lost = tt })
