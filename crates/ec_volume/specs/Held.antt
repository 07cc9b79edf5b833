-- The list of ids and images that a volume holds, what an update leaves of it, and faults of its changes.
use Rattle.std.specs.Prelude.{◌&&◌, if◌then◌else◌, ℕ, Bool, false, nat_le, T, List, [], ◌∷◌, length}
use Rattle.std.specs.List.{list_all}
use Rattle.std.specs.Ordering.{nat_cmp}
use Rattle.std.specs.FinMap.{is_sorted}
use Rattle.ec_base.specs.Tables.{Table, put, without}
use Rattle.ec_volume.specs.Limits.{max_file_bytes, max_entries, max_mode}
use Rattle.ec_volume.specs.Entries.{by_bytes}
use Rattle.ec_volume.specs.Image.{is_gone}
use Rattle.ec_volume.specs.Update.{operands, effect}
use Rattle.ec_volume.specs.Volume.{images}
use Rattle.ec_volume.specs.declared.image.Image.{Image}
use Rattle.ec_volume.specs.declared.image.Image.TheVariants.{Gone, File, Dir}
use Rattle.ec_volume.specs.declared.update.Update.{Update}

-- live, and within the limits of modes, bytes and entries
abbrev pub is_held : Image → Bool
is_held Gone = false
is_held (File m s w bs) = nat_le m max_mode && nat_le (length bs) max_file_bytes
is_held (Dir m s w es) = nat_le m max_mode && nat_le (length es) max_entries && is_sorted by_bytes es

-- The ids rise, no image is Gone, and each one is within the limits.
pub record IsVolume (es : List (ℕ × Image)) : Type 0 where
  pub sorted : T (is_sorted nat_cmp es)
  pub held : T (list_all (λ e. is_held e.1) es)

-- The list behind an update.

-- the image of a live object, or none
abbrev pub with_image : ℕ → Image → Table Image → Table Image
with_image o i es = if is_gone i then without o es else put o i es

abbrev pub changed_at : Update → List ℕ → Table Image → Table Image
changed_at u [] es = es
changed_at u (o ∷ os) es = changed_at u os (with_image o (effect u o (images es o)) es)

-- the volume behind an update of distinct operands
abbrev pub changed : Update → Table Image → Table Image
changed u es = changed_at u (operands u) es
