-- What readers and writers of whole streams do.
use Rattle.std.specs.Prelude.{◌≡◌, ℕ, ◌+◌, ◌≤◌, List, Option, length}
use Rattle.std.specs.Io.KnownBytes.{Consumes, IsAtEnd}
use Rattle.ec_base.specs.Outside.{Rose}
use Rattle.ec_streams.specs.declared.streams.ReadFault.{ReadFault}
use Rattle.ec_streams.specs.declared.streams.ReadFault.TheVariants as read

-- the source was read to its end, and gave these bytes
pub record ReadWhole (old new : Option (List ℕ)) (limit : ℕ) (given : List ℕ) : Type 0 where
  pub bytes : Consumes old new given
  pub at_end : IsAtEnd new
  pub few : length given ≤ limit

abbrev pub ReadFailed : Option (List ℕ) → Option (List ℕ) → ℕ → ℕ → ℕ → ReadFault → Type 0
ReadFailed old new before now limit read.TooMany = (bytes : List ℕ) × Consumes old new bytes × (length bytes ≡ limit + 1)
ReadFailed old new before now limit read.Failed = Rose before now
ReadFailed old new before now limit read.NoMemory = Unit {0}
