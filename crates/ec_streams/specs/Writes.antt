-- What writers of whole streams do.
use Rattle.std.specs.Prelude.{ℕ, ◌<◌, List, Option, length, take}
use Rattle.std.specs.Io.KnownBytes.{Appends}
use Rattle.ec_base.specs.Outside.{Rose}
use Rattle.ec_streams.specs.declared.streams.WriteFault.{WriteFault}
use Rattle.ec_streams.specs.declared.streams.WriteFault.TheVariants as write

abbrev pub WriteFailed : ℕ → ℕ → WriteFault → Type 0
WriteFailed before now write.Failed = Rose before now
WriteFailed before now write.NoMemory = Unit {0}

-- the sink took a part of the piece, not the whole, and why no more
pub record WrotePart (old new : Option (List ℕ)) (before now : ℕ) (piece : List ℕ) (fault : WriteFault) : Type 0 where
  pub count : ℕ
  pub short : count < length piece
  pub part : Appends old new (take count piece)
  pub cause : WriteFailed before now fault
