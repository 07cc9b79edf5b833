-- A world that stands in a system is quiet where all is idle, as contracts name it.
use Rattle.std.specs.Prelude.{◌≡◌, ℕ, None}
use Rattle.ec_lawful.specs.OfClerkSteps.Calls.{CallsAgree}
use Rattle.ec_coherence.specs.Sessions.{SessionsAgree}
use Rattle.ec_coherence.specs.Steps.{Stands}
use Rattle.ec_coherence.specs.System.{System}
use Rattle.ec_protocol.specs.World.{call_of}
use Rattle.ec_protocol.specs.declared.world.World.{World}
use Rattle.ec_quiet.specs.Quiet.{IsIdle, IsQuiet}
use Rattle.ec_quiet.specs.Scenes.{IsScene, Scene}

-- Where its facts of sessions and calls hold, no call is under way then, and each session was opened by a start that was before.
abbrev pub IdleWorldsAreQuiet : Type 0
IdleWorldsAreQuiet = (w : World) (g : System) (sc : Scene) → SessionsAgree g → CallsAgree g → Stands w g → IsScene w sc → IsIdle sc → IsQuiet w × ((c n : ℕ) → call_of c n w ≡ None)
