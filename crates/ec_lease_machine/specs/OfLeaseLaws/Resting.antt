-- Steps of a clerk at rest.
use Rattle.std.specs.Prelude.{T}
use Rattle.ec_history.specs.History.{Each}
use Rattle.ec_protocol.specs.Clerk.{Doing, settle}
use Rattle.ec_lawful.specs.OfClerkSteps.CallLaws.{IsQuiet}
use Rattle.ec_lawful.specs.OfClerkSteps.Waits.{NoneReady, does_wait}

-- where each waiting call waits and no recall is ready, the end of a step answers nothing
abbrev pub RestingIsQuiet : Type 0
RestingIsQuiet = (d : Doing) → NoneReady d.clerk → Each (λ w. T (does_wait w d.clerk)) d.clerk.waiting → IsQuiet d (settle d)
