-- What a call over a mount table asks of its own paths, and of those of the table.
use Rattle.std.specs.Prelude.{◌≡◌, ◌<◌, ◌≤◌, ℕ, List, length}
use Rattle.ec_volume.specs.Limits.{max_ordered}
use Rattle.ec_plain.specs.Walk.{Path}
use Rattle.ec_mount_words.specs.OfRoute.Routes.{path_at}

-- the paths of a call that has some
abbrev pub AreOrdered : List Path → Type 0
AreOrdered paths = (1 ≤ length paths) × (length paths ≤ max_ordered)

-- no two volumes have one mount path
abbrev pub AreApart : List Path → Type 0
AreApart table = (i j : ℕ) → i < length table → j < length table → path_at table i ≡ path_at table j → i ≡ j
