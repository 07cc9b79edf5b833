-- When a delivery of a line meets no limit of a counter, as contracts name it.
use Rattle.std.specs.Prelude.{◌≡◌, ◌≤◌, ◌<◌, ◌+◌, ◌*◌, ℕ, [], ◌∷◌, length, None, Some}
use Rattle.ec_base.specs.Limits.{last_counter}
use Rattle.ec_base.specs.Tables.{at}
use Rattle.ec_history.specs.History.{Each}
use Rattle.ec_history.specs.Placing.{EachLine}
use Rattle.ec_wire.specs.declared.msg.Msg.{Msg}
use Rattle.ec_protocol.specs.Drill.{Fates, settle}
use Rattle.ec_protocol.specs.World.{Moving, deliver, due, runs}
use Rattle.ec_protocol.specs.declared.clerk.Clerk.{Clerk}
use Rattle.ec_protocol.specs.declared.world.World.{World}
use Rattle.ec_protocol.specs.declared.world.WorldFault.{WorldFault}
use Rattle.ec_quiet.specs.Measure.{sum, unsent_by}
use Rattle.ec_quiet.specs.Phases.{InPhase, Phase}
use Rattle.ec_quiet.specs.Quiet.{IsIdle}
use Rattle.ec_quiet.specs.Scenes.{IsScene, Mail, Scene, delivered}
use Rattle.ec_quiet.specs.Works.{Work}
use Rattle.ec_quiet.specs.OfDeliveries.Coming.{HasNext}
use Rattle.ec_quiet.specs.OfDeliveries.Leading.{CanTake}
use Rattle.ec_quiet.specs.Bounds.{other_rows}
use Rattle.ec_quiet.specs.SettlingScenes.{Reaches}
use Rattle.ec_quiet.specs.Settling.{IsSettled}
use Rattle.ec_quiet.specs.First.{HasFirst}

-- The counters are at least so far below their limits.
pub record IsFar (n : ℕ) (sc : Scene) : Type 0 where
  pub number : sc.server.number + n < last_counter
  pub sends : (c : ℕ) (k : Clerk) → at c sc.clerks ≡ Some k → k.asks + k.log.next_batch + n < last_counter
  pub calls : (c : ℕ) (k : Clerk) → at c sc.clerks ≡ Some k → k.log.next + length k.waiting ≤ last_counter

-- A message that can be taken is delivered without a fault, where they are as far from them as messages are under way behind it.
abbrev pub DeliveriesMeetNoLimit : Type 0
DeliveriesMeetNoLimit = (j : Work) (w : World) (sc : Scene) (p : Phase) (t : ℕ × Msg) (rest : Mail) (n : ℕ) → IsScene w sc → InPhase j sc p → CanTake j sc p t → sc.mail ≡ t ∷ rest → due w ≡ Some n
    → IsFar (length (delivered t.0 t.1 rest sc).mail) sc → (deliver runs n w).fault ≡ None

-- the disk runs in each step of a line
abbrev pub AllRun : Fates → Type 0
AllRun fates = Each (λ f. f ≡ runs) fates

-- then the line settles as where nothing is said of the disk
abbrev pub RunsSettleAlike : Type 0
RunsSettleAlike = (k : ℕ) (fates : Fates) (m : Moving) → AllRun fates → settle k fates m ≡ settle k [] m

-- In each world that deliveries reach, while no more than so many messages were sent, the next message can be taken, and counters are so far below their limits.
pub record CanSettle (j : Work) (m : Moving) (most : ℕ) : Type 0 where
  pub takes : (r : Moving) (sc : Scene) (p : Phase) (t : ℕ × Msg) (rest : Mail) → Reaches m r → r.world.sent ≤ most → IsScene r.world sc → InPhase j sc p → sc.mail ≡ t ∷ rest → CanTake j sc p t
  pub far : (r : Moving) (sc : Scene) → Reaches m r → r.world.sent ≤ most → IsScene r.world sc → IsFar most sc

-- So the next message can be taken in each such world, where what it takes of the server's durable counters isn't at its end.
pub record CanGoOn (j : Work) (m : Moving) (most : ℕ) : Type 0 where
  pub takes : (r : Moving) (sc : Scene) (p : Phase) (t : ℕ × Msg) (rest : Mail) → Reaches m r → r.world.sent ≤ most → IsScene r.world sc → InPhase j sc p → sc.mail ≡ t ∷ rest → HasNext t.1 sc.server → CanTake j sc p t

-- It settled: nothing is due and all is idle, behind so many deliveries at most; and no line says that messages didn't settle.
pub record HasSettled (bound : ℕ) (m r : Moving) : Type 0 where
  pub reached : Reaches m r
  pub none : due r.world ≡ None
  pub fault : r.fault ≡ None
  pub sent : r.world.sent ≤ m.world.sent + bound
  pub shown : EachLine IsSettled r.shown
  pub scene : Scene
  pub stands : IsScene r.world scene
  pub idle : IsIdle scene

-- It ended in a delivery that met a fault, which changed nothing in the world and the lines to which those before it led; and no more than so many messages were sent.
pub record HasEnded (most : ℕ) (m r : Moving) : Type 0 where
  pub last : Moving
  pub reached : Reaches m last
  pub few : last.world.sent ≤ most
  pub scene : Scene
  pub stands : IsScene last.world scene
  pub world : r.world ≡ last.world
  pub shown : r.shown ≡ last.shown

-- Where fewer than k other sessions have tokens, a line that begins so settles within 4,096 deliveries for each and 4,096 more.
abbrev pub LinesSettle : Type 0
LinesSettle = (j : Work) (k most : ℕ) (m : Moving) (sc : Scene) → CanSettle j m most → m.fault ≡ None → EachLine IsSettled m.shown → IsScene m.world sc → HasFirst j sc
    → length j.touched ≤ 137 → other_rows j.session sc.server.tokens < k → sum (unsent_by j) sc.clerks ≤ 65535 → m.world.sent + 4096 * (k + 1) + 2 ≤ most
    → HasSettled (4096 * (k + 1)) m (settle (4096 * (k + 1)) [] m)

-- So does one where messages can be taken as far as counters reach, if it ends without a fault; else it ended in a delivery.
abbrev pub LinesSettleOrEnd : Type 0
LinesSettleOrEnd = (j : Work) (k most : ℕ) (m : Moving) (sc : Scene) → CanGoOn j m most → m.fault ≡ None → EachLine IsSettled m.shown → IsScene m.world sc → HasFirst j sc
    → length j.touched ≤ 137 → other_rows j.session sc.server.tokens < k → sum (unsent_by j) sc.clerks ≤ 65535 → m.world.sent + 4096 * (k + 1) + 2 ≤ most
    → ((settle (4096 * (k + 1)) [] m).fault ≡ None → HasSettled (4096 * (k + 1)) m (settle (4096 * (k + 1)) [] m))
    × ((f : WorldFault) → (settle (4096 * (k + 1)) [] m).fault ≡ Some f → HasEnded most m (settle (4096 * (k + 1)) [] m))
