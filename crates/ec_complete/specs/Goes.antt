-- One line of a script without faults, in a world that is ready for it, as contracts name it.
use Rattle.std.specs.Prelude.{◌≡◌, ◌≤◌, ◌<◌, ◌⊎◌, ◌+◌, ℕ, T, true, List, [], length, None, Some, ⊤}
use Rattle.ec_base.specs.Tables.{at, once}
use Rattle.ec_volume.specs.Update.{member}
use Rattle.ec_volume.specs.Volume.{Images}
use Rattle.ec_history.specs.History.{Each}
use Rattle.ec_sessions.specs.declared.slot.Slot.{Slot}
use Rattle.ec_protocol.specs.Clerk.{has_issued}
use Rattle.ec_protocol.specs.Drill.{clerk_in, line_happens, reads, settle}
use Rattle.ec_protocol.specs.World.{Moving, forget, runs}
use Rattle.ec_protocol.specs.declared.clerk.Clerk.{Clerk}
use Rattle.ec_protocol.specs.declared.script.Line.{Line}
use Rattle.ec_protocol.specs.declared.script.Line.TheVariants as line
use Rattle.ec_protocol.specs.declared.world.World.{World}
use Rattle.ec_protocol.specs.declared.world.WorldFault.{WorldFault}
use Rattle.ec_coherence.specs.System.{System}
use Rattle.ec_lawful.specs.DrillRuns.{IsFit}
use Rattle.ec_lawful.specs.Steps.{IsNewIn}
use Rattle.ec_quiet.specs.Scenes.{IsScene, Scene}
use Rattle.ec_quiet.specs.Works.{Work}
use Rattle.ec_quiet.specs.Bounds.{IsFirstPhase, other_rows}
use Rattle.ec_quiet.specs.First.{HasFirst, IsPush}
use Rattle.ec_quiet.specs.Measure.{sum, unsent_by}
use Rattle.ec_quiet.specs.Quiet.{IsIdle}
use Rattle.ec_complete.specs.LineCalls.{IsCalled, IsCalledFirst}
use Rattle.ec_quiet.specs.OfDeliveries.Runs.{HasEnded, HasSettled}
use Rattle.ec_complete.specs.Begins.{IsBegun, bound_for, most_sent}
use Rattle.ec_complete.specs.Complete.{IsFaultless}
use Rattle.ec_complete.specs.Worlds.{IsEarly, LineIsKnown, Outset}
use Rattle.ec_complete.specs.Ready.{IsReady}

-- The line's work in the world before it: of a call of a clerk that runs, or starts with it; or of a push of an operation that its clerk issued.
abbrev pub IsWorkOf : Line → World → Scene → System → Work → Type 0
IsWorkOf (line.Call c cl) w sc g j = (j.clerk ≡ c) × (((sl : Slot) × (k : Clerk) × IsCalled j cl w sc g sl k) ⊎ IsCalledFirst j cl w sc g)
IsWorkOf (line.Push c n) w sc g j = (j.clerk ≡ c) × (j.touched ≡ []) × (sl : Slot) × (k : Clerk) × IsPush j sc sl k n × (has_issued n k ≡ true)
IsWorkOf _ w sc g j = ⊥

-- Behind the line's first step its work is in a phase in which lines begin, in a world of which all facts hold; fewer than k other sessions have tokens, and
-- few operations are undurable.
pub record HasStarted (outset : Outset) (k number : ℕ) (m : Moving) : Type 0 where
  pub work : Work
  pub known : LineIsKnown outset work number m
  pub scene : Scene
  pub stands : IsScene m.world scene
  pub first : HasFirst work scene
  pub few : length work.touched ≤ 137
  pub rows : other_rows work.session scene.server.tokens < k
  pub unsent : sum (unsent_by work) scene.clerks ≤ 65535

-- or it did nothing, and all is idle
abbrev pub IsStarted : Outset → ℕ → ℕ → Moving → Type 0
IsStarted outset k number m = HasStarted outset k number m ⊎ ((sc : Scene) × IsScene m.world sc × IsIdle sc)

-- The line is new, and met no fault in its first step: its work is known, or it did nothing. If it ends without a fault it settled, and the world is ready for
-- the next line; else it ended in a delivery.
pub record LineGoesOn (outset : Outset) (v : Images) (most : ℕ) (names : List ℕ) (number : ℕ) (l : Line) (w : World) (q : IsReady outset v most names number w) : Type 0 where
  pub new : IsNewIn w number
  pub fine : (line_happens runs number l w).fault ≡ None
  pub known : ((j : Work) × IsWorkOf l w q.scene q.system j × (k : LineIsKnown outset j number (line_happens runs number l w)) × IsFirstPhase k.phase) ⊎ IsScene (line_happens runs number l w).world q.scene
  pub started : IsStarted outset (length (once names)) number (line_happens runs number l w)
  pub ends : (settle (bound_for (length (once names))) [] (line_happens runs number l w)).fault ≡ None
      → HasSettled (bound_for (length (once names))) (line_happens runs number l w) (settle (bound_for (length (once names))) [] (line_happens runs number l w))
  pub ended : (f : WorldFault) → (settle (bound_for (length (once names))) [] (line_happens runs number l w)).fault ≡ Some f
      → HasEnded most_sent (line_happens runs number l w) (settle (bound_for (length (once names))) [] (line_happens runs number l w))
  pub next : HasSettled (bound_for (length (once names))) (line_happens runs number l w) (settle (bound_for (length (once names))) [] (line_happens runs number l w))
      → IsReady outset v most names (number + 1) (forget (settle (bound_for (length (once names))) [] (line_happens runs number l w)).world)

-- It settles, and the world is ready for the next line.
pub record GoesThrough (outset : Outset) (v : Images) (most : ℕ) (names : List ℕ) (number : ℕ) (l : Line) (w : World) (q : IsReady outset v most names number w) : Type 0 where
  pub goes : LineGoesOn outset v most names number l w q
  pub begun : IsBegun (length (once names)) (line_happens runs number l w)
  pub settled : HasSettled (bound_for (length (once names))) (line_happens runs number l w) (settle (bound_for (length (once names))) [] (line_happens runs number l w))
  pub next : IsReady outset v most names (number + 1) (forget (settle (bound_for (length (once names))) [] (line_happens runs number l w)).world)

-- a push meets no fault
abbrev pub PushGoes : ℕ → Line → World → Type 0
PushGoes number (line.Push c n) w = (line_happens runs number (line.Push c n) w).fault ≡ None
PushGoes number _ w = ⊤

-- A push of an operation that its clerk issued meets none.
abbrev pub PushesGo : Type 0
PushesGo = (outset : Outset) (v : Images) (most : ℕ) (names : List ℕ) (number : ℕ) (w : World) → IsReady outset v most names number w → 1 ≤ number → number ≤ 65536 → (c n : ℕ) (k : Clerk) → at c w.clerks ≡ Some k → has_issued n k ≡ true
    → PushGoes number (line.Push c n) w

-- Each line that meets no fault in its first step goes on, one of the first 65,536, where its clerk has one of at most 16 names.
abbrev pub LinesGoOn : Type 0
LinesGoOn = (outset : Outset) (v : Images) (most : ℕ) (names : List ℕ) (number : ℕ) (l : Line) (column : ℕ) (w : World) (q : IsReady outset v most names number w) → length (once names) ≤ 16 → 1 ≤ number → number ≤ 65536 → IsFaultless l → IsFit (reads l column)
    → Each (λ c. T (member c names)) (clerk_in l) → (line_happens runs number l w).fault ≡ None → LineGoesOn outset v most names number l w q

-- Where counters were far below their limits each settles, if a push meets no fault.
abbrev pub LinesGoThrough : Type 0
LinesGoThrough = (outset : Outset) (v : Images) (most : ℕ) (names : List ℕ) (number : ℕ) (l : Line) (column : ℕ) (w : World) (q : IsReady outset v most names number w) → IsEarly outset → length (once names) ≤ 16 → 1 ≤ number → number ≤ 65536 → IsFaultless l
    → IsFit (reads l column) → Each (λ c. T (member c names)) (clerk_in l) → PushGoes number l w → GoesThrough outset v most names number l w q
