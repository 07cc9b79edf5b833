-- Histories with other ids for their new objects.
use Rattle.std.specs.Prelude.{◌≡◌, ◌+◌, ℕ, T, not, List, [], ◌∷◌}
use Rattle.ec_volume.specs.Image.{is_gone}
use Rattle.ec_volume.specs.Volume.{Images}
use Rattle.ec_volume.specs.declared.update.Update.{Update}
use Rattle.ec_volume.specs.declared.update.Update.TheVariants.{Make}
use Rattle.ec_history.specs.History.{Each, History, issued}
use Rattle.ec_history.specs.OfLaws.Renaming.{IsRenaming}

-- The id at such an entry is of no object of the volume, and no operation that was issued before made it.

abbrev pub made_ids : Update → List ℕ
made_ids (Make dir name obj k) = obj ∷ []
made_ids _ = []

-- How ids may be read: two ids as two, and the root and each id of the volume as itself; the id with which an operation of the history made an object is read as the place
-- of its call, above all ids of the volume.
pub record IsReading (v : Images) (f : ℕ → ℕ) (n : ℕ) (h : History) (r : ℕ → ℕ) : Type 0 where
  pub renames : IsRenaming r
  pub own : (x : ℕ) → T (not (is_gone (v x))) → r x ≡ x
  pub made : Each (λ o. Each (λ x. r x ≡ n + o.place) (made_ids o.update)) (issued (record { volume = v; fresh = f }) h)
