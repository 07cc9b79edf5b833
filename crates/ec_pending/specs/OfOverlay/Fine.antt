-- Images that may be laid over a volume.
use Rattle.std.specs.Prelude.{◌≡◌, Bool, true, ◌||◌, Option, None, Some, ⊤}
use Rattle.ec_volume.specs.Image.{is_gone}
use Rattle.ec_volume.specs.Held.{is_held}
use Rattle.ec_volume.specs.declared.image.Image.{Image}

-- Gone, or within the limits
abbrev pub is_fine : Image → Bool
is_fine i = is_gone i || is_held i

-- an image that is laid, if any
abbrev pub IsFine : Option Image → Type 0
IsFine None = ⊤
IsFine (Some i) = is_fine i ≡ true
