-- Write-behind: in a script without faults a durable line names operations in a closure that its line of the script asks for.
use Rattle.std.specs.Prelude.{◌≡◌, ◌≤◌, ℕ, List, ◌∷◌, ◌++◌, length, Option, Some}
use Rattle.ec_base.specs.Tables.{at_or}
use Rattle.ec_volume.specs.Volume.{Images, after}
use Rattle.ec_history.specs.History.{Base, Each, updates}
use Rattle.ec_history.specs.declared.shown.Shown.{Shown}
use Rattle.ec_wire.specs.declared.msg.Msg.{Msg}
use Rattle.ec_plain.specs.declared.call.Call.{Call}
use Rattle.ec_protocol.specs.World.{Moving, call, deliver, due, push, runs}
use Rattle.ec_protocol.specs.declared.clerk.Clerk.{Clerk}
use Rattle.ec_protocol.specs.declared.script.Line.{Line}
use Rattle.ec_protocol.specs.declared.world.World.{World}
use Rattle.ec_coherence.specs.Invariant.{Invariant}
use Rattle.ec_coherence.specs.Steps.{Stands}
use Rattle.ec_coherence.specs.System.{System, base_of}
use Rattle.ec_quiet.specs.Phases.{InPhase, Phase}
use Rattle.ec_quiet.specs.Scenes.{IsScene, Mail, Scene}
use Rattle.ec_quiet.specs.Works.{Work}
use Rattle.ec_quiet.specs.OfDeliveries.Leading.{CanTake}
use Rattle.ec_quiet.specs.SettlingScenes.{Reaches}
use Rattle.ec_quiet.specs.OfDeliveries.PhasesBehind.{IsBehind, MaySee}
use Rattle.ec_quiet.specs.OfDeliveries.WithinClosures.{AreWithin, IsWithin}
use Rattle.ec_quiet.specs.OfDeliveries.Scripts.{volume_behind}
use Rattle.ec_quiet.specs.OfDeliveries.ScriptWorks.{IsWorkOf, IsWorkOn}

-- Where a line of the script is carried out, each line that a delivery shows is such.
abbrev pub DurableLinesStayWithin : Type 0
DurableLinesStayWithin = (w : World) (g : System) (sc : Scene) → Invariant g → Stands w g → IsScene w sc → (v : Images) (j : Work) (p : Phase) → InPhase j sc p → IsBehind v j sc
    → (i : ℕ) → due w ≡ Some i → Each (IsWithin (base_of g) v j w.shown) (deliver runs i w).shown

-- A line of the script as a whole. In its first step nothing is durable yet.
abbrev pub FirstStepsStayWithin : Type 0
FirstStepsStayWithin = (base : Base) (v : Images) (j : Work) (w : World) (past : List Shown)
    → ((c line : ℕ) (cl : Call) → AreWithin base v j past (call c line cl w).shown) × ((c n : ℕ) (k : Option Clerk) → AreWithin base v j past (push c n k w).shown)

-- The base has the volume at the beginning, and at the places of these lines the ids that new objects got.
pub record IsBaseOf (base : Base) (g : System) (ss : List Shown) : Type 0 where
  pub volume : base.volume ≡ g.origin
  pub fresh : (p : ℕ) → p ≤ length ss → base.fresh p ≡ at_or 0 p g.ghost.fresh

-- What is known of each world that deliveries come to while the line settles, and no more than so many messages were sent: the invariant holds, and who takes the next
-- message has what that needs.
pub record WorldIsKnown (base : Base) (v : Images) (j : Work) (most : ℕ) (m : Moving) : Type 0 where
  pub stands : (r : Moving) → Reaches m r → r.world.sent ≤ most → (g : System) × Invariant g × Stands r.world g × IsBaseOf base g r.world.shown
  pub takes : (r : Moving) (sc : Scene) (p : Phase) (x : ℕ × Msg) (rest : Mail) → Reaches m r → r.world.sent ≤ most → IsScene r.world sc → InPhase j sc p → sc.mail ≡ x ∷ rest → CanTake j sc p x × MaySee v j sc p

-- Where the line has come to: in a phase, with nothing under way to be durable but what it asks for, and so with each line shown on the way.
pub record StaysWithin (base : Base) (v : Images) (j : Work) (m r : Moving) : Type 0 where
  pub scene : Scene
  pub phase : Phase
  pub stands : IsScene r.world scene
  pub comes : InPhase j scene phase
  pub behind : IsBehind v j scene
  pub lines : List Shown
  pub shown : r.world.shown ≡ m.world.shown ++ lines
  pub piece : r.shown ≡ m.shown ++ lines
  pub within : AreWithin base v j m.world.shown lines

-- So it is wherever deliveries come to from a phase, and when the line has settled.
abbrev pub LinesSettleWithin : Type 0
LinesSettleWithin = (base : Base) (v : Images) (j : Work) (most : ℕ) (m : Moving) (sc : Scene) (p : Phase) → WorldIsKnown base v j most m → IsScene m.world sc → InPhase j sc p → IsBehind v j sc
    → (r : Moving) → Reaches m r → r.world.sent ≤ most → StaysWithin base v j m r

-- What the lines of a world leave is what is kept in its system: the volume; and so the work of a line on what is kept is its work behind the lines.
abbrev pub LinesTellWhatIsKept : Type 0
LinesTellWhatIsKept = (w : World) (g : System) → Invariant g → Stands w g
    → (volume_behind (base_of g) w.shown ≡ after g.origin (updates g.ghost.kept)) × ((l : Line) (j : Work) → IsWorkOn g.origin g.ghost.kept l j → IsWorkOf (base_of g) w.shown l j)
