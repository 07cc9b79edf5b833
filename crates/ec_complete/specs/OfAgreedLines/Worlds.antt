-- The scene of a world in whose system the invariant holds.
use Rattle.std.specs.Prelude.{◌≡◌, ◌≤◌, ℕ, true, false, nat_lt, nat_le, ◌∷◌, Some}
use Rattle.ec_base.specs.Limits.{last_counter}
use Rattle.ec_base.specs.Tables.{at}
use Rattle.ec_base.specs.declared.ids.Hold.{Hold}
use Rattle.ec_sessions.specs.Limits.{last_first_id, last_grants}
use Rattle.ec_sessions.specs.declared.slot.Slot.{Slot}
use Rattle.ec_wire.specs.declared.msg.Msg.{Msg}
use Rattle.ec_durable.specs.Durable.{slot}
use Rattle.ec_protocol.specs.Server.{serving, is_last_number}
use Rattle.ec_protocol.specs.declared.clerk.Clerk.{Clerk}
use Rattle.ec_protocol.specs.declared.server.Server.{Server}
use Rattle.ec_protocol.specs.declared.world.World.{World}
use Rattle.ec_coherence.specs.Invariant.{Invariant}
use Rattle.ec_coherence.specs.Steps.{Stands}
use Rattle.ec_coherence.specs.System.{System}
use Rattle.ec_quiet.specs.Phases.{Phase, Grants, Gives, InPhase}
use Rattle.ec_quiet.specs.Scenes.{IsScene, Mail, Scene, delivered, is_for_server}
use Rattle.ec_quiet.specs.Works.{Work}
use Rattle.ec_quiet.specs.Goes.{GoesOn}

-- None of the server's counters is at its end: the numbers of tokens and of sessions, the ids, and how often each clerk was granted some.
pub record HasCounters (v : Server) : Type 0 where
  pub number : is_last_number (serving v) ≡ false
  pub session : nat_le last_counter v.durable.next_session ≡ false
  pub first : nat_lt last_first_id v.durable.next_id ≡ false
  pub grants : (c : ℕ) (sl : Slot) → slot v.durable c ≡ Some sl → nat_le last_grants sl.grants ≡ false

-- The server and the clerks of the scene are the system's.
pub record IsSeen (g : System) (sc : Scene) : Type 0 where
  pub server : g.server ≡ Some sc.server
  pub durable : g.durable ≡ sc.server.durable
  pub clerks : (c : ℕ) (k : Clerk) → at c sc.clerks ≡ Some k → (b : ℕ) × (g.clerks c b ≡ Some k)

-- so it is with the scene of a world that stands in the system
abbrev pub ScenesAreSeen : Type 0
ScenesAreSeen = (w : World) (g : System) (sc : Scene) → Stands w g → IsScene w sc → IsSeen g sc

-- In such a world, where the invariant holds, each message for the server that is the next one leads from a phase to a phase, with less left.
abbrev pub DeliveriesGoOnInWorlds : Type 0
DeliveriesGoOnInWorlds = (w : World) (g : System) (sc : Scene) → Invariant g → Stands w g → IsScene w sc → (j : Work) (p : Phase) (m : ℕ × Msg) (rest : Mail)
    → InPhase j sc p → HasCounters sc.server → is_for_server m.1 ≡ true → sc.mail ≡ m ∷ rest → GoesOn j sc p (delivered m.0 m.1 rest sc)

-- There the server gave out the number of a token that is granted, and that of ids; and one more grant of ids can be counted.
abbrev pub NumbersAreGiven : Type 0
NumbersAreGiven = (g : System) (sc : Scene) → Invariant g → IsSeen g sc → (j : Work) (x n : ℕ) (h : Hold) → InPhase j sc (Grants x h n) → n ≤ sc.server.number

abbrev pub IdsAreCounted : Type 0
IdsAreCounted = (g : System) (sc : Scene) → Invariant g → IsSeen g sc → (j : Work) (got n first : ℕ) → InPhase j sc (Gives got n first) → HasCounters sc.server → (n ≤ sc.server.number) × (nat_le last_grants got ≡ false)
