-- A line of a script without faults, in a world of which all facts hold: so it is in each world that deliveries reach, and it can settle, as contracts name it.
use Rattle.std.specs.Prelude.{◌≤◌, ◌<◌, ◌+◌, ℕ}
use Rattle.ec_base.specs.Limits.{last_counter}
use Rattle.ec_sessions.specs.Limits.{last_first_id}
use Rattle.ec_protocol.specs.World.{Moving, boot}
use Rattle.ec_protocol.specs.declared.world.World.{World}
use Rattle.ec_coherence.specs.System.{System}
use Rattle.ec_quiet.specs.Phases.{InPhase, Phase}
use Rattle.ec_quiet.specs.Scenes.{IsScene, Scene}
use Rattle.ec_quiet.specs.Works.{Work}
use Rattle.ec_quiet.specs.SettlingScenes.{Reaches}
use Rattle.ec_machine_laws.specs.Counts as server
use Rattle.ec_complete.specs.OfAgreedLines.Counting as clerks
use Rattle.ec_complete.specs.Spare.{AreGiven, max_calls, max_given}
use Rattle.ec_complete.specs.Lines.{IsOnLine}
use Rattle.ec_quiet.specs.OfDeliveries.Runs.{CanGoOn, CanSettle}
use Rattle.ec_complete.specs.Begins.{most_sent}

-- What the counters of a run began at: the next session, the next id, and how often each clerk had started.
pub record Outset : Type 0 where
  pub session : ℕ
  pub first : ℕ
  pub boots : ℕ → ℕ

-- on a disk that was formatted
abbrev pub new_outset : Outset
new_outset = record { session = 1; first = 2; boots = λ c. 0 }

-- in a run that began with this world
abbrev pub outset_of : World → Outset
outset_of w = record { session = w.durable.next_session; first = w.durable.next_id; boots = λ c. boot c w }

-- They were further below their limits than a script counts them up.
pub record IsEarly (outset : Outset) : Type 0 where
  pub sessions : outset.session + most_sent < last_counter
  pub ids : outset.first + max_given ≤ last_first_id
  pub boots : (c : ℕ) → outset.boots c + max_calls ≤ last_counter

-- Behind so many calls the counters of the server and of the clerks are no higher than these and the messages that were sent; and no more ids were given out
-- since than the sessions that are open were granted.
pub record IsCounted (outset : Outset) (calls : ℕ) (w : World) (sc : Scene) : Type 0 where
  pub server : server.AreCounted 0 outset.session w
  pub clerks : clerks.AreCounted calls w
  pub ids : AreGiven outset.first sc.server.durable

-- The line's work is in a phase, in a world of which all facts hold.
pub record LineIsKnown (outset : Outset) (j : Work) (calls : ℕ) (m : Moving) : Type 0 where
  pub scene : Scene
  pub stands : IsScene m.world scene
  pub phase : Phase
  pub comes : InPhase j scene phase
  pub system : System
  pub facts : IsOnLine j m.world scene system
  pub counted : IsCounted outset calls m.world scene

-- so it is in each world that deliveries reach, while not too many messages were sent
abbrev pub LinesStayKnown : Type 0
LinesStayKnown = (outset : Outset) (j : Work) (calls : ℕ) (m r : Moving) → LineIsKnown outset j calls m → calls ≤ max_calls → Reaches m r → r.world.sent ≤ most_sent → LineIsKnown outset j calls r

-- and so the line can settle, where counters were far below their limits
abbrev pub LinesCanSettle : Type 0
LinesCanSettle = (outset : Outset) (j : Work) (calls : ℕ) (m : Moving) → LineIsKnown outset j calls m → calls ≤ max_calls → IsEarly outset → CanSettle j m most_sent

-- and it can go on, as far as counters reach
abbrev pub LinesCanGoOn : Type 0
LinesCanGoOn = (outset : Outset) (j : Work) (calls : ℕ) (m : Moving) → LineIsKnown outset j calls m → calls ≤ max_calls → CanGoOn j m most_sent
