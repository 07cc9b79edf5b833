-- What a net says of the links that it hands out and takes back.
use Rattle.std.specs.Prelude.{ℕ, List, Option}
use Rattle.ec_link.specs.Links.{Heard}

-- what a link gave and got up to its end, where it told them
abbrev pub Ended : Type 0
Ended = Option (List Heard) × Option (List (List ℕ))
