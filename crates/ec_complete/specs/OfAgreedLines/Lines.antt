-- The first step of a line's clerk, as contracts name it.
use Rattle.std.specs.Prelude.{◌≡◌, ◌<◌, T, false, nat_le, [], Some}
use Rattle.ec_base.specs.Limits.{last_counter}
use Rattle.ec_base.specs.Tables.{at, keys}
use Rattle.ec_volume.specs.Update.{distinct}
use Rattle.ec_plain.specs.declared.call.Call.{Call}
use Rattle.ec_sessions.specs.declared.slot.Slot.{Slot}
use Rattle.ec_durable.specs.Durable.{slot}
use Rattle.ec_protocol.specs.Clerk.{add_call, begin}
use Rattle.ec_protocol.specs.declared.clerk.Clerk.{Clerk}
use Rattle.ec_quiet.specs.Phases.{InPhase, Phase, backs}
use Rattle.ec_quiet.specs.Quiet.{IsIdle}
use Rattle.ec_quiet.specs.Scenes.{Scene, done_by}
use Rattle.ec_quiet.specs.Works.{Work}
use Rattle.ec_quiet.specs.Frames.{IsAsked}
use Rattle.ec_quiet.specs.Goes.{MayGo}

-- The work is of a clerk that runs, in its session, from here on; each of its tokens stands once.
pub record IsAt (j : Work) (sc : Scene) (sl : Slot) (k : Clerk) : Type 0 where
  pub clerk : j.clerk < 16
  pub there : at j.clerk sc.clerks ≡ Some k
  pub slot : slot sc.server.durable j.clerk ≡ Some sl
  pub session : sl.session ≡ j.session
  pub number : j.number ≡ sc.server.number
  pub once : T (distinct (keys k.cache.held))

-- The line's work is in a phase in which its clerk wants, asks or saves, or is done, and no token is on its way back.
pub record HasBegun (j : Work) (sc : Scene) : Type 0 where
  pub phase : Phase
  pub asked : IsAsked phase
  pub comes : InPhase j sc phase
  pub none_back : backs j sc.mail ≡ []

-- Where all is idle, a call of a clerk that runs leads to such a phase.
abbrev pub CallsBegin : Type 0
CallsBegin = (j : Work) (sc : Scene) (sl : Slot) (k : Clerk) (cl : Call) → IsIdle sc → IsAt j sc sl k → nat_le last_counter k.calls ≡ false → MayGo j (add_call cl k) → HasBegun j (done_by j.clerk (begin cl k) sc.mail sc)
