-- Why a script of calls over several volumes gives no rows.
use Rattle.std.specs.Prelude.{◌≡◌, ◌+◌, ◌<◌, ◌≤◌, ℕ, List, length, Option}
use Rattle.std.specs.Io.KnownBytes.{Consumes}
use Rattle.ec_base.specs.Outside.{Rose}
use Rattle.ec_script.specs.Lines.{lines_of}
use Rattle.ec_mount.specs.Script.{most_bytes, most_lines, IsScript}
use Rattle.ec_mount.specs.declared.script.Unread.{Unread}
use Rattle.ec_mount.specs.declared.script.Unread.TheVariants as unread
use Rattle.ec_mount_table.specs.Rows.{IsBadAt}

-- why lines give no rows
abbrev pub ReadsRows : List (List ℕ) → Unread → Type 0
ReadsRows lines (unread.Bad n column) = IsBadAt lines n column
ReadsRows lines unread.NoMemory = Unit {0}
ReadsRows lines _ = ⊥

-- why there are no rows
abbrev pub GivesNone : Option (List ℕ) → Option (List ℕ) → ℕ → ℕ → Unread → Type 0
GivesNone left left_after faults later unread.Bytes = (bytes : List ℕ) × Consumes left left_after bytes × (length bytes ≡ most_bytes + 1)
GivesNone left left_after faults later (unread.Lines n) = (script : List ℕ) × IsScript left left_after script × (n ≡ length (lines_of script)) × (most_lines < n)
GivesNone left left_after faults later (unread.Bad n column) = (script : List ℕ) × IsScript left left_after script × (length (lines_of script) ≤ most_lines) × IsBadAt (lines_of script) n column
GivesNone left left_after faults later unread.Source = Rose faults later
GivesNone left left_after faults later unread.NoMemory = Unit {0}
