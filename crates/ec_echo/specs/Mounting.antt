-- What a mount of several volumes does, by its words.
use Rattle.std.specs.Prelude.{ℕ, List, drop, map}
use Rattle.ec_drill.specs.Drill.{Outside, IsDiskUntouched}
use Rattle.ec_plain.specs.Walk.{Path}
use Rattle.ec_mount.specs.Mount.{StartsAs}
use Rattle.ec_mount.specs.declared.status.Status as mounted
use Rattle.ec_mount_words.specs.Mounts.{mount_path}
use Rattle.ec_mount_table.specs.Table.{MountsAll}
use Rattle.ec_echo.specs.Echo.{Links, mounting}

-- the mount paths of the words behind the form and the clerk
abbrev pub table_of : List (List ℕ) → List Path
table_of words = map mount_path (drop 2 words)

-- The calls of the source are carried out over these volumes by this clerk, which greets each with this boot. The disk isn't touched, and a thread that couldn't be
-- started has its status.
abbrev pub MountsTable : ℕ → List (List ℕ) → ℕ → mounted.Status → Outside → Links → Type 0
MountsTable boot words c end w n = MountsAll c boot (table_of words) end (mounting w n) × IsDiskUntouched w × StartsAs end n.before.starts n.later.starts
