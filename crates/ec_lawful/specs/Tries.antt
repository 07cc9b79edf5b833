-- What is proved of the tries of a step under way, as contracts name it.
use Rattle.std.specs.Prelude.{ℕ}
use Rattle.ec_protocol.specs.Clerk.{Doing}
use Rattle.ec_coherence.specs.System.{System, Ghost}
use Rattle.ec_coherence.specs.Steps.{doing_in}
use Rattle.ec_lawful.specs.Whole.{ShowsAll}
use Rattle.ec_lawful.specs.SettleLaws.{TriesAll}
use Rattle.ec_lawful.specs.Rooms.{OneAnswers}

-- behind the tries of all calls
abbrev pub EachTries : Type 0
EachTries = (g : System) (c b : ℕ) → TriesAll g c b

-- and behind a single answer
abbrev pub ShowsOne : System → ℕ → ℕ → Doing → Ghost → Type 0
ShowsOne g c b d γ = ShowsAll (doing_in c b d γ g)

abbrev pub EachAnswers : Type 0
EachAnswers = (g : System) (c b : ℕ) → OneAnswers g c b (ShowsOne g c b)
