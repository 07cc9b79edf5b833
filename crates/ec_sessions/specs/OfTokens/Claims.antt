-- What a refused claim shows.
use Rattle.std.specs.Prelude.{◌≡◌, ℕ, Option, Some}
use Rattle.ec_sessions.specs.declared.tokens.tokens.ClaimFault.{ClaimFault}
use Rattle.ec_sessions.specs.declared.tokens.tokens.ClaimFault.TheVariants.{Clash, NoMemory}

-- A clash is the first one; want of memory shows nothing.
abbrev pub ShowsClash : Option (ℕ × ℕ) → ClaimFault → Type 0
ShowsClash first (Clash x t) = first ≡ Some (x, t)
ShowsClash first NoMemory = Unit {0}
