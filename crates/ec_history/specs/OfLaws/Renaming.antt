-- Volumes, updates, outcomes and histories with their ids renamed.
use Rattle.std.specs.Prelude.{◌≡◌, ◌==◌, ℕ, [], ◌∷◌}
use Rattle.ec_volume.specs.Entries.{Entries}
use Rattle.ec_volume.specs.Update.{root}
use Rattle.ec_volume.specs.declared.image.Image.{Image}
use Rattle.ec_volume.specs.declared.image.Image.TheVariants.{Gone, File, Dir}

-- Two ids have two names, and the root keeps its own.
pub record IsRenaming (r : ℕ → ℕ) : Type 0 where
  pub apart : (a b : ℕ) → (r a == r b) ≡ (a == b)
  pub root_stays : r root ≡ root

abbrev pub entries_by : (ℕ → ℕ) → Entries → Entries
entries_by r [] = []
entries_by r (e ∷ es) = (e.0, r e.1) ∷ entries_by r es

abbrev pub image_by : (ℕ → ℕ) → Image → Image
image_by r Gone = Gone
image_by r (File m s w bs) = File m s w bs
image_by r (Dir m s w es) = Dir m s w (entries_by r es)
