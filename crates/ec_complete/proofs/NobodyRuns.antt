-- A new disk is opened, and no clerk runs yet.
use Rattle.std.proofs.Common.{◌≡◌, refl, sym, ap, ◌∙◌, ℕ, [], ◌∷◌}
use Rattle.std.specs.Prelude.{Ok, Result}
use Rattle.ec_base.specs.declared.counter.Counter.{Counter}
use Rattle.ec_durable.specs.Durable.{formatted}
use Rattle.ec_durable.specs.declared.record.Record.TheVariants.{Epoch}
use Rattle.ec_protocol.specs.World.{new_world, open_world}
use Rattle.ec_protocol.specs.declared.world.World.{World}

module _ (most : ℕ) where
  abbrev new : World
  new = new_world (record { durable = record (formatted most) { epoch = 1 }; tokens = []; recalls = []; claimed = []; number = 0; recorded = [] }) (Epoch 1 ∷ [])

  opened-is : open_world (formatted most) ≡ Ok new
  opened-is = refl

  pub opens : (w : World) × (open_world (formatted most) ≡ Ok w)
  opens = (new, opened-is)

  pub none-run : (w : World) → open_world (formatted most) ≡ Ok w → w.clerks ≡ []
  none-run w e = ap (λ (x : World). x.clerks) (same w new (sym e ∙ opened-is))
    where
      same : (a b : World) → ◌≡◌ {A = Result World Counter} (Ok a) (Ok b) → a ≡ b
      same a b p = cc
