-- Old bytes of written ranges, and what they give when they are written back.
use Rattle.std.specs.Prelude.{◌≡◌, ℕ, ◌+◌, ◌%◌, ◌≤◌, ◌==◌, if◌then◌else◌, List, [], ◌∷◌, length, map}
use Rattle.std.specs.List.{range_with_len}
use Rattle.ec_disk.specs.Disk.{byte}
use Rattle.ec_disk.specs.Effects.{written}
use Rattle.ec_disk.specs.declared.undo.Undo.{Undo}

-- the new byte at an even place, the old one at an odd one
abbrev pub torn_byte : ℕ → List ℕ → List ℕ → ℕ → ℕ
torn_byte at new old i = if (at + i) % 2 == 0 then byte new i else byte old i

-- a torn write of new bytes from a place on
abbrev pub torn : ℕ → List ℕ → List ℕ → List ℕ
torn at new old = map (torn_byte at new old) (range_with_len 0 (length new))

-- an image with the old bytes written back, the last first
abbrev pub undone : List Undo → List ℕ → List ℕ
undone [] image = image
undone (undo ∷ undos) image = written undo.at undo.old (undone undos image)

-- Written back over what is there now, they give what was synced, with zeros past its end.
pub record Restores (undos : List Undo) (len : ℕ) (now synced : List ℕ) : Type 0 where
  pub len_is : len ≡ length synced
  pub no_shorter : length synced ≤ length now
  pub inside : length (undone undos now) ≡ length now
  pub bytes : (i : ℕ) → byte (undone undos now) i ≡ byte synced i
