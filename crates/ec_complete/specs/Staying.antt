-- A line's world behind a delivery, as contracts name it.
use Rattle.std.specs.Prelude.{◌≡◌, ℕ, [], ◌∷◌, None, Some}
use Rattle.ec_base.specs.Tables.{at}
use Rattle.ec_wire.specs.declared.msg.Msg.{Msg}
use Rattle.ec_protocol.specs.World.{deliver, due, runs}
use Rattle.ec_protocol.specs.declared.clerk.Clerk.{Clerk}
use Rattle.ec_protocol.specs.declared.world.World.{World}
use Rattle.ec_coherence.specs.System.{System}
use Rattle.ec_quiet.specs.Phases.{InPhase, Phase}
use Rattle.ec_quiet.specs.Scenes.{IsScene, Mail, Scene, delivered}
use Rattle.ec_quiet.specs.Works.{Work}
use Rattle.ec_complete.specs.Lines.{IsOnLine, IsSpare}

-- Where a delivery leads from a phase to a phase, the world behind it stands in a system of which all facts hold, and the line is about what its call
-- touches there, while it waits.
abbrev pub LinesStayOn : Type 0
LinesStayOn = (j : Work) (w : World) (sc : Scene) (g : System) (p q : Phase) (m : ℕ × Msg) (rest : Mail) (n : ℕ) → IsOnLine j w sc g → IsSpare j sc → IsScene w sc → InPhase j sc p → sc.mail ≡ m ∷ rest
    → due w ≡ Some n → (deliver runs n w).fault ≡ None → InPhase j (delivered m.0 m.1 rest sc) q → (h : System) × IsOnLine j (deliver runs n w).world (delivered m.0 m.1 rest sc) h

-- The two systems began with the same volume; and while the line's call waits in this scene, the same is kept in both.
pub record LeavesKept (j : Work) (sc : Scene) (g h : System) : Type 0 where
  pub origin : h.origin ≡ g.origin
  pub kept : (k : Clerk) → at j.clerk sc.clerks ≡ Some k → (k.waiting ≡ [] → ⊥) → h.ghost.kept ≡ g.ghost.kept

-- So are the systems before and behind the delivery.
abbrev pub LinesLeaveKept : Type 0
LinesLeaveKept = (j : Work) (w : World) (sc : Scene) (g : System) (p q : Phase) (m : ℕ × Msg) (rest : Mail) (n : ℕ) → IsOnLine j w sc g → IsSpare j sc → IsScene w sc → InPhase j sc p → sc.mail ≡ m ∷ rest
    → due w ≡ Some n → (deliver runs n w).fault ≡ None → InPhase j (delivered m.0 m.1 rest sc) q
    → (h : System) × IsOnLine j (deliver runs n w).world (delivered m.0 m.1 rest sc) h × LeavesKept j (delivered m.0 m.1 rest sc) g h
