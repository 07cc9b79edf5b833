-- Images whose code is within the limits.
use Rattle.std.specs.Prelude.{Bool, true, ◌&&◌, nat_le, length}
use Rattle.ec_volume.specs.Update.{distinct}
use Rattle.ec_volume.specs.declared.image.Image.{Image}
use Rattle.ec_volume.specs.declared.image.Image.TheVariants.{Gone, File, Dir}
use Rattle.ec_codes.specs.Images.{max_file_bytes, max_entries, ids_under}

-- modes, lengths and counts are within their limits, and no id stands twice
abbrev pub is_sound_image : Image → Bool
is_sound_image Gone = true
is_sound_image (File m s w bs) = nat_le m 4095 && nat_le (length bs) max_file_bytes
is_sound_image (Dir m s w es) = nat_le m 4095 && nat_le (length es) max_entries && distinct (ids_under es)
