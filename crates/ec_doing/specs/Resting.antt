-- Waiting calls of which a try comes to nothing.
use Rattle.std.specs.Prelude.{◌≡◌, ℕ, Bool, true, false, List, [], ◌∷◌, Option, None, Some}
use Rattle.ec_history.specs.declared.entry.Answer.TheVariants.{Reply}
use Rattle.ec_protocol.specs.declared.clerk.Out.{Out}
use Rattle.ec_protocol.specs.declared.clerk.Out.TheVariants.{Answer}
use Rattle.ec_protocol.specs.declared.clerk.Waiting.{Waiting}
use Rattle.ec_protocol.specs.Clerk as machine
use Rattle.ec_doing.specs.declared.doing.Doing.{Doing}
use Rattle.ec_doing.specs.declared.doing.Tried.{Tried}
use Rattle.ec_doing.specs.declared.doing.Tried.TheVariants.{Waits, Answered}
use Rattle.ec_doing.specs.Seen.{doing_of}

-- a try of the call changes nothing
abbrev pub Rests : Waiting → Doing → Type 0
Rests w d = (ws : List Waiting) → machine.try w (doing_of ws d) ≡ machine.Waits (doing_of ws d)

abbrev pub AllRest : List Waiting → Doing → Type 0
AllRest [] d = Unit {0}
AllRest (w ∷ ws) d = Rests w d × AllRest ws d

-- an answer of a call without an operation
abbrev pub is_plain : Out → Bool
is_plain (Answer n (Reply r) None) = true
is_plain _ = false

abbrev pub is_plain_at : Option Out → Bool
is_plain_at None = false
is_plain_at (Some o) = is_plain o

-- whether a call was answered, of which it's told how many rest then
abbrev pub tried_of : Option ℕ → Tried
tried_of None = Waits
tried_of (Some n) = Answered
