-- Which lists of names are a path.
use Rattle.std.specs.Prelude.{◌≤◌, All, ℕ, List, length}
use Rattle.ec_base.specs.Limits.{max_path_names}
use Rattle.ec_base.specs.Names.{IsName}

abbrev pub IsPath : List (List ℕ) → Type 0
IsPath names = (length names ≤ max_path_names) × All IsName names
