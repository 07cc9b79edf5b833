-- A world that settles, seen as its scene: each delivery, and all of them until nothing is under way.
use Rattle.std.specs.Prelude.{◌≡◌, ◌≤◌, ◌+◌, ◌*◌, ℕ, [], ◌∷◌, None, Some}
use Rattle.ec_base.specs.Tables.{at}
use Rattle.ec_plain.specs.declared.call.Call.{Call}
use Rattle.ec_wire.specs.declared.msg.Msg.{Msg}
use Rattle.ec_protocol.specs.Clerk.{begin}
use Rattle.ec_protocol.specs.Drill.{onward, settle}
use Rattle.ec_protocol.specs.World.{Moving, call, deliver, due, runs}
use Rattle.ec_protocol.specs.declared.clerk.Clerk.{Clerk}
use Rattle.ec_protocol.specs.declared.world.World.{World}
use Rattle.ec_quiet.specs.Measure.{measure}
use Rattle.ec_quiet.specs.Phases.{InPhase, Phase}
use Rattle.ec_quiet.specs.Quiet.{IsIdle}
use Rattle.ec_quiet.specs.Scenes.{IsScene, Mail, Scene, delivered, done_by}
use Rattle.ec_quiet.specs.Works.{Work}

-- The first message of the scene is the next one that is delivered; and where no counter is at its limit, the scene behind it is that of the world.
abbrev pub DeliveriesKeepScenes : Type 0
DeliveriesKeepScenes = (w : World) (sc : Scene) (c : ℕ) (m : Msg) (rest : Mail) → IsScene w sc → sc.mail ≡ (c, m) ∷ rest
    → (n : ℕ) × (due w ≡ Some n) × ((deliver runs n w).fault ≡ None → IsScene (deliver runs n w).world (delivered c m rest sc))

abbrev pub NothingIsDue : Type 0
NothingIsDue = (w : World) (sc : Scene) → IsScene w sc → sc.mail ≡ [] → due w ≡ None

-- Where no message is under way all is idle.
abbrev pub EndsAreIdle : Type 0
EndsAreIdle = (j : Work) (sc : Scene) (p : Phase) → InPhase j sc p → sc.mail ≡ [] → IsIdle sc

-- Deliveries alone lead from the one to the other, each without a fault.
pub data Reaches (m : Moving) : Moving → Type 0 where
  here : Reaches m m
  on : (r : Moving) (n : ℕ) → Reaches m r → due r.world ≡ Some n → (deliver runs n r.world).fault ≡ None → Reaches m (onward r (deliver runs n r.world))

-- While a line settles, the next delivery meets no limit of a counter, and leads to a phase with a lower measure.
pub record GoesWell (j : Work) (m : Moving) : Type 0 where
  pub goes : (r : Moving) (n : ℕ) → Reaches m r → due r.world ≡ Some n → (deliver runs n r.world).fault ≡ None
  pub falls : (r : Moving) (sc : Scene) (p : Phase) (c : ℕ) (t : Msg) (rest : Mail) → Reaches m r → IsScene r.world sc → InPhase j sc p → sc.mail ≡ (c, t) ∷ rest
      → (q : Phase) × InPhase j (delivered c t rest sc) q × (measure j (delivered c t rest sc) q + 32 ≤ measure j sc p)

-- A line that is in a phase settles within its deliveries, without an unsettled message: nothing is due then, and all is idle.
abbrev pub PhasesSettle : Type 0
PhasesSettle = (j : Work) (k : ℕ) (m : Moving) (sc : Scene) (p : Phase) → GoesWell j m → m.fault ≡ None → IsScene m.world sc → InPhase j sc p → measure j sc p ≤ 32 * k
    → Reaches m (settle k [] m) × (due (settle k [] m).world ≡ None) × ((settle k [] m).fault ≡ None) × (then : Scene) × IsScene (settle k [] m).world then × IsIdle then

-- The step of a call of a clerk that runs: in the scene the clerk begins it.
abbrev pub CallsKeepScenes : Type 0
CallsKeepScenes = (w : World) (sc : Scene) (c line : ℕ) (cl : Call) (k : Clerk) → IsScene w sc → at c w.clerks ≡ Some k → (call c line cl w).fault ≡ None
    → ((begin cl k).spent ≡ None) × IsScene (call c line cl w).world (done_by c (begin cl k) sc.mail sc)
