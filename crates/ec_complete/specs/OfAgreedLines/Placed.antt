-- Write-behind with the places of calls as the ids of new objects, as contracts name it.
use Rattle.std.specs.Prelude.{◌≡◌, ◌≤◌, ◌+◌, ℕ, T, not, List, [], ◌∷◌, ◌++◌, Some}
use Rattle.ec_base.specs.Tables.{at}
use Rattle.ec_volume.specs.Image.{is_gone}
use Rattle.ec_volume.specs.Volume.{Images, WellFormed, after}
use Rattle.ec_history.specs.History.{Base, Throughout, updates}
use Rattle.ec_history.specs.Placing.{place}
use Rattle.ec_history.specs.declared.shown.Shown.{Shown}
use Rattle.ec_history.specs.OfLaws.NewIds.{IsNewId}
use Rattle.ec_wire.specs.declared.msg.Msg.{Msg}
use Rattle.ec_protocol.specs.World.{Moving}
use Rattle.ec_protocol.specs.declared.clerk.Clerk.{Clerk}
use Rattle.ec_protocol.specs.declared.script.Line.{Line}
use Rattle.ec_coherence.specs.Invariant.{Invariant}
use Rattle.ec_coherence.specs.Steps.{Stands}
use Rattle.ec_coherence.specs.System.{System, base_of}
use Rattle.ec_quiet.specs.Phases.{InPhase, Phase}
use Rattle.ec_quiet.specs.Scenes.{IsScene, Mail, Scene}
use Rattle.ec_quiet.specs.Works.{HasTask, Work}
use Rattle.ec_quiet.specs.OfDeliveries.Coming.{HasNext}
use Rattle.ec_quiet.specs.OfDeliveries.Leading.{CanTake}
use Rattle.ec_quiet.specs.SettlingScenes.{Reaches}
use Rattle.ec_quiet.specs.OfDeliveries.PhasesBehind.{IsBehind, MaySee, saved}
use Rattle.ec_quiet.specs.OfDeliveries.Scripts.{AreWriteBehind, IsWriteBehind}
use Rattle.ec_quiet.specs.OfDeliveries.ScriptWorks.{IsWorkOn}

-- Where each id was of no object and made by no operation before, it may be exchanged for the place of its call, above all ids of the volume.
abbrev pub WriteBehindIsPlaced : Type 0
WriteBehindIsPlaced = (v : Images) (f : ℕ → ℕ) (n : ℕ) (ss : List Shown) → WellFormed v → ((x : ℕ) → T (not (is_gone (v x))) → x ≤ n) → Throughout (IsNewId v f) [] (place ss)
    → (l : Line) (s : Shown) → IsWriteBehind (record { volume = v; fresh = f }) l ss s → IsWriteBehind (record { volume = v; fresh = λ p. n + p }) l ss s

-- A line of a script settles.

-- while the line's clerk has its task, the volume that is kept shows the same to be made durable as v, and the work is that of the line
abbrev pub WorksOn : Line → Images → Work → System → Moving → Type 0
WorksOn l v j g r = (k : Clerk) → at j.clerk r.world.clerks ≡ Some k → HasTask j.task k → (saved (after g.origin (updates g.ghost.kept)) j.task ≡ saved v j.task) × IsWorkOn g.origin g.ghost.kept l j

-- What is known of each world that deliveries come to while no more than so many messages were sent: it stands in a system that began with this volume, where the invariant holds and each new object had an id of
-- its own; the work is that of the line; and who takes the next message has what that needs, where what it takes of the server's durable counters isn't at its end.
pub record IsFollowed (l : Line) (origin v : Images) (j : Work) (most : ℕ) (m : Moving) : Type 0 where
  pub stands : (r : Moving) → Reaches m r → r.world.sent ≤ most
      → (g : System) × Invariant g × Stands r.world g × (g.origin ≡ origin) × Throughout (IsNewId g.origin (base_of g).fresh) [] (place r.world.shown) × WorksOn l v j g r
  pub takes : (r : Moving) (sc : Scene) (p : Phase) (x : ℕ × Msg) (rest : Mail) → Reaches m r → r.world.sent ≤ most → IsScene r.world sc → InPhase j sc p → sc.mail ≡ x ∷ rest → HasNext x.1 sc.server → CanTake j sc p x × MaySee v j sc p

-- the lines that were shown between the two, of which each durable one names operations in closures that the line asks for
pub record WritesBehind (base : Base) (l : Line) (m r : Moving) : Type 0 where
  pub lines : List Shown
  pub shown : r.world.shown ≡ m.world.shown ++ lines
  pub piece : r.shown ≡ m.shown ++ lines
  pub behind : AreWriteBehind base l m.world.shown lines

-- Wherever deliveries come to from a phase, and so when the line has settled.
abbrev pub LinesWriteBehind : Type 0
LinesWriteBehind = (l : Line) (origin : Images) (top : ℕ) (v : Images) (j : Work) (most : ℕ) (m : Moving) (sc : Scene) (p : Phase) → WellFormed origin → ((x : ℕ) → T (not (is_gone (origin x))) → x ≤ top)
    → IsFollowed l origin v j most m → IsScene m.world sc → InPhase j sc p → IsBehind v j sc → (r : Moving) → Reaches m r → r.world.sent ≤ most → WritesBehind (record { volume = origin; fresh = λ p. top + p }) l m r
