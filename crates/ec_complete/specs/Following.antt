-- The work of a line over the volume that is kept, in the worlds in which the line settles, as contracts name it.
use Rattle.std.specs.Prelude.{◌≡◌, ◌≤◌, ◌⊎◌, ℕ, T, not, [], None, Some, ⊤}
use Rattle.ec_base.specs.Tables.{at}
use Rattle.ec_volume.specs.Image.{is_gone}
use Rattle.ec_volume.specs.Volume.{Images, WellFormed}
use Rattle.ec_plain.specs.declared.call.Call as call
use Rattle.ec_history.specs.History.{Each}
use Rattle.ec_sessions.specs.declared.slot.Slot.{Slot}
use Rattle.ec_durable.specs.WellFormed.{IsInOrder}
use Rattle.ec_protocol.specs.World as world
use Rattle.ec_protocol.specs.World.{Moving}
use Rattle.ec_protocol.specs.declared.clerk.Clerk.{Clerk}
use Rattle.ec_protocol.specs.declared.script.Line.{Line}
use Rattle.ec_protocol.specs.declared.script.Line.TheVariants.{Call, Push}
use Rattle.ec_protocol.specs.declared.world.World.{World}
use Rattle.ec_coherence.specs.Steps.{Stands}
use Rattle.ec_coherence.specs.System.{System}
use Rattle.ec_lawful.specs.Steps.{IsNewIn}
use Rattle.ec_lawful.specs.Whole.{Whole}
use Rattle.ec_quiet.specs.Facts.{WantIsAnswered}
use Rattle.ec_quiet.specs.Phases.{InPhase, Phase}
use Rattle.ec_quiet.specs.Quiet.{IsIdle}
use Rattle.ec_quiet.specs.Scenes.{IsScene, Scene}
use Rattle.ec_quiet.specs.Works.{Calls, Pushes, Task, Work}
use Rattle.ec_quiet.specs.Bounds.{IsFirstPhase}
use Rattle.ec_quiet.specs.SettlingScenes.{Reaches}
use Rattle.ec_quiet.specs.First.{IsPush}
use Rattle.ec_complete.specs.WaitingCalls.{kept_volume, touched_by}
use Rattle.ec_complete.specs.Lines.{IsOnLine, next_object}
use Rattle.ec_complete.specs.LineCalls.{IsCalled, IsCalledFirst}
use Rattle.ec_complete.specs.Spare.{max_calls}
use Rattle.ec_complete.specs.Begins.{most_sent}
use Rattle.ec_complete.specs.Worlds.{IsCounted, LineIsKnown, Outset}
use Rattle.ec_lawful.specs.Headline.{placed_on}
use Rattle.ec_quiet.specs.OfDeliveries.PhasesBehind.{IsBehind, MaySee, saved}
use Rattle.ec_quiet.specs.OfDeliveries.ScriptWorks.{IsWorkOn}
use Rattle.ec_complete.specs.OfAgreedLines.Placed.{IsFollowed, WritesBehind}

-- the clerk's task isn't done yet: its call waits, or an operation is pushed
abbrev pub IsAtWork : Task → Clerk → Type 0
IsAtWork (Calls cl) k = k.waiting ≡ [] → ⊥
IsAtWork (Pushes n) k = ⊤

-- The system began with this volume. While the line's clerk is at work, the volume that is kept shows the same to be made durable as v, and the work is that of the
-- line.
pub record IsWorked (l : Line) (origin v : Images) (j : Work) (sc : Scene) (g : System) : Type 0 where
  pub origin_is : g.origin ≡ origin
  pub works : (k : Clerk) → at j.clerk sc.clerks ≡ Some k → IsAtWork j.task k → (saved (kept_volume g) j.task ≡ saved v j.task) × IsWorkOn g.origin g.ghost.kept l j

-- So is a call where the line is about what it touches on the volume that is kept, and about the id that its next object gets, while it waits.
abbrev pub CallsAreWorked : Type 0
CallsAreWorked = (cl : call.Call) (v : Images) (j : Work) (w : World) (sc : Scene) (g : System) (p : Phase) → IsOnLine j w sc g → IsScene w sc → InPhase j sc p → j.task ≡ Calls cl
    → ((k : Clerk) → at j.clerk sc.clerks ≡ Some k → (k.waiting ≡ [] → ⊥) → (kept_volume g ≡ v) × (j.touched ≡ touched_by cl (kept_volume g) (next_object sc j.clerk k))) → IsWorked (Call j.clerk cl) g.origin v j sc g

-- and a push
abbrev pub PushesAreWorked : Type 0
PushesAreWorked = (n : ℕ) (v : Images) (j : Work) (sc : Scene) (g : System) → j.task ≡ Pushes n → j.touched ≡ [] → IsWorked (Push j.clerk n) g.origin v j sc g

-- What the line's clerk waits for is what the line is to make durable.
abbrev pub WorkedLinesSee : Type 0
WorkedLinesSee = (l : Line) (origin v : Images) (j : Work) (w : World) (sc : Scene) (g : System) (p : Phase) → IsOnLine j w sc g → IsWorked l origin v j sc g → IsScene w sc → InPhase j sc p → MaySee v j sc p

-- The line's work is in a phase, in a world of which all facts hold, and it's the line's.
pub record IsKnownOf (outset : Outset) (l : Line) (origin v : Images) (j : Work) (calls : ℕ) (m : Moving) : Type 0 where
  pub known : LineIsKnown outset j calls m
  pub worked : IsWorked l origin v j known.scene known.system

-- so it is in each world that deliveries reach, while not too many messages were sent
abbrev pub LinesStayWorked : Type 0
LinesStayWorked = (outset : Outset) (l : Line) (origin v : Images) (j : Work) (calls : ℕ) (m r : Moving) → IsKnownOf outset l origin v j calls m → calls ≤ max_calls → Reaches m r → r.world.sent ≤ most_sent → IsKnownOf outset l origin v j calls r

-- That's all that is asked for.
abbrev pub KnownLinesAreFollowed : Type 0
KnownLinesAreFollowed = (outset : Outset) (l : Line) (origin v : Images) (j : Work) (calls : ℕ) (m : Moving) → IsKnownOf outset l origin v j calls m → calls ≤ max_calls → IsFollowed l origin v j most_sent m

-- So each durable line names operations in closures that the line asks for, where at the beginning nothing else was under way to be durable.
abbrev pub KnownLinesWriteBehind : Type 0
KnownLinesWriteBehind = (outset : Outset) (l : Line) (origin : Images) (top : ℕ) (v : Images) (j : Work) (calls : ℕ) (m : Moving) (q : IsKnownOf outset l origin v j calls m) → WellFormed origin → ((x : ℕ) → T (not (is_gone (origin x))) → x ≤ top) → calls ≤ max_calls
    → IsBehind v j q.known.scene → (r : Moving) → Reaches m r → r.world.sent ≤ most_sent → WritesBehind (placed_on origin top) l m r

-- First steps.

-- A line's first step: its work is in a phase, and it's the line's; and nothing is under way to be durable but what the line asks for.
pub record BeginsBehind (outset : Outset) (l : Line) (origin v : Images) (j : Work) (calls : ℕ) (m : Moving) : Type 0 where
  pub known : IsKnownOf outset l origin v j calls m
  pub behind : IsBehind v j known.known.scene

-- A world behind the step, with its scene, where counters are as high as so many calls make them.
abbrev pub IsCountedIn : Outset → ℕ → World → Type 0
IsCountedIn outset calls w = (s : Scene) × IsScene w s × IsCounted outset calls w s

-- So is a call of a clerk that runs, where all facts hold before it; one of a clerk that starts; and a push.
abbrev pub CallsBeginBehind : Type 0
CallsBeginBehind = (outset : Outset) (j : Work) (number : ℕ) (cl : call.Call) (w : World) (sc : Scene) (g : System) (sl : Slot) (k : Clerk) (calls : ℕ) → IsCalled j cl w sc g sl k → IsNewIn w number → (world.call j.clerk number cl w).fault ≡ None
    → IsCountedIn outset calls (world.call j.clerk number cl w).world → BeginsBehind outset (Call j.clerk cl) g.origin (kept_volume g) j calls (world.call j.clerk number cl w)

abbrev pub StartsBeginBehind : Type 0
StartsBeginBehind = (outset : Outset) (j : Work) (number : ℕ) (cl : call.Call) (w : World) (sc : Scene) (g : System) (calls : ℕ) → IsCalledFirst j cl w sc g → IsNewIn w number → (world.call j.clerk number cl w).fault ≡ None
    → (q : LineIsKnown outset j calls (world.call j.clerk number cl w)) → IsFirstPhase q.phase → BeginsBehind outset (Call j.clerk cl) g.origin (kept_volume g) j calls (world.call j.clerk number cl w)

-- behind a push the clerk has no call, and nothing that it wanted is unanswered
abbrev pub IsUncalled : ℕ → Scene → Type 0
IsUncalled c s = (k : Clerk) → at c s.clerks ≡ Some k → ((k.waiting ≡ [] → ⊥) → ⊥) × Each (WantIsAnswered k.cache) k.wanted

abbrev pub PushesBeginBehind : Type 0
PushesBeginBehind = (outset : Outset) (j : Work) (n : ℕ) (w : World) (sc : Scene) (g : System) (sl : Slot) (k : Clerk) (v : Images) (calls : ℕ) → Whole g → Stands w g → IsScene w sc → IsIdle sc → IsInOrder sc.server.durable → IsPush j sc sl k n → j.touched ≡ []
    → let m = world.push j.clerk n (at j.clerk w.clerks) w in m.fault ≡ None → (s : Scene) → IsScene m.world s → IsCounted outset calls m.world s → IsUncalled j.clerk s → BeginsBehind outset (Push j.clerk n) g.origin v j calls m ⊎ IsScene m.world sc
