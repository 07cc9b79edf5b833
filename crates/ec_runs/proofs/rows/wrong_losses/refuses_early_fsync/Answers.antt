use Rattle.std.proofs.Common.{refl, inl}
use Rattle.std.specs.Prelude.{codes}
use Rattle.ec_volume.specs.declared.image.Kind.TheVariants as kind
use Rattle.ec_volume.specs.declared.update.Update.TheVariants as update
use Rattle.ec_order.specs.Order.{ask}
use Rattle.ec_runs.proofs.rows.wrong_losses.refuses_early_fsync.Goals as goal

-- the fsync covers the create
pub returns-clause-early_illegal : goal.returns-clause-early_illegal
returns-clause-early_illegal c h = (h.1.1.0).uncovered.1.0.0 (record { own = tt; closed_in = ask 1 (update.Make 1 (codes "f") 3 kind.File) (inl (refl, refl)) tt; not_lost = tt })

pub returns-clause-early_uncovered : goal.returns-clause-early_uncovered
returns-clause-early_uncovered c h = h.1.0 1 (record { own = tt; closed_in = ask 1 (update.Make 1 (codes "f") 3 kind.File) (inl (refl, refl)) tt; not_lost = tt })
