-- Texts that are written.
use Rattle.std.specs.Prelude.{◌≡◌, ◌<◌, ◌⊎◌, ℕ, List, Option, take, length}
use Rattle.std.specs.Io.KnownBytes.{Appends}
use Rattle.ec_base.specs.Outside.{Rose}
use Rattle.ec_echo.specs.declared.status.Status.{Status}
use Rattle.ec_echo.specs.declared.status.Status.TheVariants as status

-- a part of a text was written, not the whole
pub record WroteInPart (text : List ℕ) (held now : Option (List ℕ)) : Type 0 where
  pub count : ℕ
  pub short : count < length text
  pub bytes : Appends held now (take count text)

-- The text was written whole, and the program ends so; or a part of it, for the sink failed or there is no memory.
abbrev pub WroteWith : List ℕ → Status → Status → Option (List ℕ) → Option (List ℕ) → ℕ → ℕ → Type 0
WroteWith text st result held now before later =
    ((result ≡ st) × Appends held now text)
    ⊎ (((result ≡ status.SinkFault) × Rose before later × WroteInPart text held now)
    ⊎ ((result ≡ status.NoMemory) × WroteInPart text held now))

-- there was no memory, and nothing was written
abbrev pub WroteNothing : Status → Option (List ℕ) → Option (List ℕ) → Type 0
WroteNothing result held now = (result ≡ status.NoMemory) × (now ≡ held)

-- this text was written, with this status, or a part of it, or nothing
abbrev pub TellsText : List ℕ → Status → Status → Option (List ℕ) → Option (List ℕ) → ℕ → ℕ → Type 0
TellsText text st result held now before later = WroteWith text st result held now before later ⊎ WroteNothing result held now
