-- What a volume with images laid over it shows.
use Rattle.std.specs.Prelude.{ℕ, Bool, List, Option, None, Some, is_some}
use Rattle.ec_order.specs.OfObjtable.Slots.{held}
use Rattle.ec_volume.specs.Volume.{Images, images}
use Rattle.ec_volume.specs.declared.image.Image.{Image}
use Rattle.ec_pending.specs.declared.overlay.overlay.Overlay.{Overlay}

-- an object's image laid over the volume, else the volume's
abbrev pub laid_or : List (ℕ × Image) → ℕ → Option Image → Image
laid_or under o None = images under o
laid_or under o (Some i) = i

abbrev pub shown : Overlay → Images
shown l o = laid_or l.under o (held o l.over)

-- the object has an image of its own, laid over the volume's
abbrev pub has_own : Overlay → ℕ → Bool
has_own l o = is_some (held o l.over)
