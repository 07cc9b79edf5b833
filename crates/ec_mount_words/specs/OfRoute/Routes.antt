-- Which volume of a mount table a path goes to, and which one a call. A table is the list of its mount paths.
use Rattle.std.specs.Prelude.{◌≡◌, ◌≢◌, ◌+◌, ◌<◌, ◌≤◌, ℕ, List, [], length, get_or}
use mathlib.Core.List.{IsPrefix}
use Rattle.ec_plain.specs.Walk.{Path}
use Rattle.ec_mount_words.specs.declared.route.routes.Route.{Route}
use Rattle.ec_mount_words.specs.declared.route.routes.Route.TheVariants.{To, NoVolume, CrossVolume}

-- the path at a place of a list
abbrev pub path_at : List Path → ℕ → Path
path_at paths i = get_or paths i []

-- A path goes to the volume with the longest mount path of which the names are the first of the path's.
pub record Goes (table : List Path) (path : Path) (place : ℕ) : Type 0 where
  pub inside : place < length table
  pub below : IsPrefix (path_at table place) path
  pub longest : (i : ℕ) → i < length table → IsPrefix (path_at table i) path → length (path_at table i) ≤ length (path_at table place)

abbrev pub HasVolume : List Path → Path → Type 0
HasVolume table path = (place : ℕ) × Goes table path place

abbrev pub HasNoVolume : List Path → Path → Type 0
HasNoVolume table path = (i : ℕ) → i < length table → IsPrefix (path_at table i) path → ⊥

-- Where a call with these paths goes: to the one volume to which each path goes, or nowhere. The number of a path is from 1.
abbrev pub IsRoute : List Path → List Path → Route → Type 0
IsRoute table paths (To place) = (i : ℕ) → i < length paths → Goes table (path_at paths i) place
IsRoute table paths (NoVolume number) =
    (i : ℕ) × (number ≡ i + 1) × (i < length paths) × HasNoVolume table (path_at paths i) × ((j : ℕ) → j < i → HasVolume table (path_at paths j))
IsRoute table paths CrossVolume =
    ((i : ℕ) → i < length paths → HasVolume table (path_at paths i))
    × ((i : ℕ) × (j : ℕ) × (to : ℕ) × (other : ℕ) × (i < length paths) × (j < length paths) × Goes table (path_at paths i) to × Goes table (path_at paths j) other × (to ≢ other))
