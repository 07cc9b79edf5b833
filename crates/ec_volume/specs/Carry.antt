-- What the steps of carrying an update out leave, and which updates change entries. No public clause cites this module.
use Rattle.std.specs.Prelude.{◌==◌, if◌then◌else◌, ℕ, Bool, true, false, Option, None, Some}
use Rattle.ec_volume.specs.Volume.{Images}
use Rattle.ec_volume.specs.declared.image.Image.{Image}
use Rattle.ec_volume.specs.declared.image.Image.TheVariants.{Gone}
use Rattle.ec_volume.specs.declared.update.Update.{Update}
use Rattle.ec_volume.specs.declared.update.Update.TheVariants.{Make, Drop, Move, Shift}

-- the volume with another image of the object
abbrev pub instead : ℕ → Image → Images → Images
instead o i v p = if p == o then i else v p

-- the volume without an object that goes, if any
abbrev pub cleared : Option ℕ → Images → Images
cleared None v p = v p
cleared (Some o) v p = if p == o then Gone else v p

-- an update of entries
abbrev pub renames : Update → Bool
renames (Make dir name obj k) = true
renames (Drop dir name obj k) = true
renames (Move dir from to obj k victim) = true
renames (Shift dir from into to obj k victim up) = true
renames _ = false
