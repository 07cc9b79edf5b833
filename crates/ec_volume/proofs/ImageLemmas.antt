-- Lemmas on the definitions of `Image` that several proofs cite.
use Rattle.std.proofs.Common.{◌||◌, T, Bool, true, false, cond}
use Rattle.ec_volume.specs.Image.{is_gone, new_object}
use Rattle.ec_volume.specs.Held.{is_held}
use Rattle.ec_volume.specs.declared.image.Image.{Image}
use Rattle.ec_volume.specs.declared.image.Image.TheVariants.{Gone}
use Rattle.ec_volume.specs.declared.image.Kind.{Kind}
use Rattle.ec_volume.specs.declared.image.Kind.TheVariants as kind

-- gone, or within the limits
abbrev pub IsWithin : Image → Type 0
IsWithin i = T (is_gone i || is_held i)

pub within_new : (b : Bool) (k : Kind) → IsWithin (cond b Gone (new_object k))
within_new true k = tt
within_new false kind.File = tt
within_new false kind.Dir = tt
