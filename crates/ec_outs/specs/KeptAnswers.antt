-- What is kept of what came out of a step.
use Rattle.std.specs.Prelude.{ℕ, List, Option, Some, None}
use Rattle.ec_base.specs.declared.ids.Age.{Age}
use Rattle.ec_outs.specs.declared.kept.Kept.{Kept}
use Rattle.ec_base.specs.Lists.{first_of}
use Rattle.ec_outs.specs.Outs.{Reply}

-- the first greater age that is known, where these come behind
abbrev pub first_known : Option Age → List Age → Option Age
first_known None l = first_of l
first_known (Some age) l = Some age

-- an answer of the step at this place
abbrev pub kept_at : ℕ → ℕ × Reply → Kept
kept_at at a = record { number = a.0; at = at; reply = a.1 }
