-- When no counter of a line's world is at its end, as contracts name it.
use Rattle.std.specs.Prelude.{◌≡◌, ◌≤◌, ◌<◌, ◌+◌, ◌*◌, ℕ, suc, zero, true, false, ◌∷◌, Option, None, Some}
use Rattle.ec_base.specs.Limits.{clerk_count, last_counter}
use Rattle.ec_sessions.specs.Limits.{ids_per_grant, last_first_id}
use Rattle.ec_sessions.specs.declared.slot.Slot.{Slot}
use Rattle.ec_wire.specs.declared.msg.Msg.{Msg}
use Rattle.ec_durable.specs.Durable.{slot}
use Rattle.ec_durable.specs.declared.state.Durable.{Durable}
use Rattle.ec_protocol.specs.World.{deliver, due, runs}
use Rattle.ec_protocol.specs.declared.world.World.{World}
use Rattle.ec_coherence.specs.System.{System}
use Rattle.ec_quiet.specs.Phases.{InPhase, Phase}
use Rattle.ec_quiet.specs.Scenes.{IsScene, Mail, Scene, delivered}
use Rattle.ec_quiet.specs.Works.{Work}
use Rattle.ec_machine_laws.specs.Counts as server
use Rattle.ec_complete.specs.OfAgreedLines.Counting as clerk
use Rattle.ec_quiet.specs.OfDeliveries.Coming.{HasNext}
use Rattle.ec_complete.specs.Lines.{IsOnLine, IsSpare}

-- Ids.

-- how often the session of this slot was granted ids, where it's open
abbrev pub open_grants : Option Slot → ℕ
open_grants None = 0
open_grants (Some sl) = elim sl.is_open [ true ↦ sl.grants | false ↦ 0 ]

-- the same of the clerks below this number
abbrev pub granted_below : ℕ → Durable → ℕ
granted_below zero d = 0
granted_below (suc c) d = open_grants (slot d c) + granted_below c d

-- the ids above this one were given to the sessions that are open
abbrev pub AreGiven : ℕ → Durable → Type 0
AreGiven first d = d.next_id ≤ first + ids_per_grant * granted_below clerk_count d

-- so it stays behind a delivery that leads from a phase to a phase
abbrev pub IdsStayGiven : Type 0
IdsStayGiven = (first : ℕ) (j : Work) (w : World) (sc : Scene) (g : System) (p q : Phase) (m : ℕ × Msg) (rest : Mail) (n : ℕ) → IsOnLine j w sc g → IsSpare j sc → IsScene w sc → InPhase j sc p → sc.mail ≡ m ∷ rest
    → due w ≡ Some n → (deliver runs n w).fault ≡ None → InPhase j (delivered m.0 m.1 rest sc) q → AreGiven first sc.server.durable → AreGiven first (delivered m.0 m.1 rest sc).server.durable

-- Bounds.

-- a script has at most so many lines
abbrev pub max_calls : ℕ
max_calls = 65536

-- The clerks that ran in such a script were given at most so many ids: each grant but the last one of a clerk was used up by its operations, or is in
-- store.
abbrev pub max_given : ℕ
max_given = 1065216

-- The server's counters began at these numbers, and so many messages were sent since; each clerk made at most so many calls; and ids above this one were
-- given to the sessions that are open.
pub record IsBelow (number session first calls : ℕ) (w : World) (sc : Scene) : Type 0 where
  pub server : server.AreCounted number session w
  pub clerks : clerk.AreCounted calls w
  pub ids : AreGiven first sc.server.durable
  pub few : calls ≤ max_calls
  pub numbers : number + w.sent < last_counter

abbrev pub CountersAreSpare : Type 0
CountersAreSpare = (number session first calls : ℕ) (j : Work) (w : World) (sc : Scene) (g : System) (p : Phase) → IsBelow number session first calls w sc → IsOnLine j w sc g → IsScene w sc → InPhase j sc p → IsSpare j sc

-- The numbers of sessions, and the ids, began further below their limits than a script counts them up.
pub record IsFarBelow (session first : ℕ) (w : World) : Type 0 where
  pub sessions : session + w.sent < last_counter
  pub firsts : first + max_given ≤ last_first_id

-- Then what a message takes of the server's durable counters isn't at its end.
abbrev pub NextIsSpare : Type 0
NextIsSpare = (number session first calls : ℕ) (j : Work) (w : World) (sc : Scene) (g : System) (p : Phase) → IsBelow number session first calls w sc → IsFarBelow session first w → IsOnLine j w sc g → IsScene w sc → InPhase j sc p → (m : Msg) → HasNext m sc.server
