-- A world in which a line settles, of which all facts hold, as contracts name it.
use Rattle.std.specs.Prelude.{◌≡◌, ◌≤◌, ◌==◌, ◌&&◌, ◌+◌, ℕ, T, true, false, nat_le, [], ◌∷◌, length, Option, None, Some, is_some}
use Rattle.ec_base.specs.Limits.{last_counter}
use Rattle.ec_base.specs.Tables.{at, or_else}
use Rattle.ec_volume.specs.Update.{member}
use Rattle.ec_history.specs.History.{Each}
use Rattle.ec_sessions.specs.Limits.{last_grants}
use Rattle.ec_sessions.specs.declared.slot.Slot.{Slot}
use Rattle.ec_wire.specs.declared.msg.Msg.{Msg}
use Rattle.ec_durable.specs.Durable.{slot}
use Rattle.ec_durable.specs.WellFormed.{IsInOrder}
use Rattle.ec_log.specs.Log as log
use Rattle.ec_protocol.specs.Clerk.{first_id}
use Rattle.ec_protocol.specs.Server.{is_last_number, serving}
use Rattle.ec_protocol.specs.declared.clerk.Clerk.{Clerk}
use Rattle.ec_protocol.specs.declared.world.World.{World}
use Rattle.ec_coherence.specs.Steps.{Stands}
use Rattle.ec_coherence.specs.System.{System}
use Rattle.ec_lawful.specs.Whole.{Whole}
use Rattle.ec_quiet.specs.Facts.{WantIsAnswered}
use Rattle.ec_quiet.specs.Phases.{InPhase, Phase}
use Rattle.ec_quiet.specs.Scenes.{IsScene, Mail, Scene}
use Rattle.ec_quiet.specs.Works.{Pushes, Work}
use Rattle.ec_quiet.specs.Tries.{HasCounters}
use Rattle.ec_quiet.specs.OfDeliveries.Coming.{HasNext}
use Rattle.ec_quiet.specs.OfDeliveries.Leading.{CanTake}
use Rattle.ec_complete.specs.WaitingCalls.{IsAbout, kept_volume, max_about}

-- The first id that the clerk gets next: of those that were given to its session and that it didn't take yet, or of the server's next ones.
abbrev pub next_given : ℕ → Clerk → Option Slot → ℕ
next_given next k None = next
next_given next k (Some sl) = elim (is_some k.session && (sl.grants == k.got + 1)) [ true ↦ or_else 0 sl.last_first | false ↦ next ]

-- the id that its next object gets
abbrev pub next_object : Scene → ℕ → Clerk → ℕ
next_object sc c k = or_else (next_given sc.server.durable.next_id k (slot sc.server.durable c)) (first_id k.ids)

-- The world stands in a system of which all facts hold. While the line's call waits, what it touches on the kept volume, and the id of its new object,
-- are what the line is about; and an operation that is pushed wants no token.
pub record IsOnLine (j : Work) (w : World) (sc : Scene) (g : System) : Type 0 where
  pub whole : Whole g
  pub stands : Stands w g
  pub order : IsInOrder sc.server.durable
  pub few : length j.touched ≤ max_about
  pub about : (k : Clerk) → at j.clerk sc.clerks ≡ Some k → (k.waiting ≡ [] → ⊥) → IsAbout j (kept_volume g)
  pub id : (k : Clerk) → at j.clerk sc.clerks ≡ Some k → (k.waiting ≡ [] → ⊥) → T (member (next_object sc j.clerk k) j.touched)
  pub answered : (n : ℕ) → j.task ≡ Pushes n → (k : Clerk) → at j.clerk sc.clerks ≡ Some k → Each (WantIsAnswered k.cache) k.wanted

-- No number of tokens or of grants of ids, and no counter of a clerk, is at its end, and the line's clerk may issue an operation.
pub record IsSpare (j : Work) (sc : Scene) : Type 0 where
  pub number : is_last_number (serving sc.server) ≡ false
  pub grants : (k : Clerk) (sl : Slot) → at j.clerk sc.clerks ≡ Some k → slot sc.server.durable j.clerk ≡ Some sl → k.session ≡ Some sl.session → nat_le last_grants sl.grants ≡ false
  pub clerks : (c : ℕ) (k : Clerk) → at c sc.clerks ≡ Some k → HasCounters k
  pub small : (k : Clerk) → at j.clerk sc.clerks ≡ Some k → (k.waiting ≡ [] → ⊥) → log.is_full k.log ≡ false

-- Then what the next message of a phase needs is there, where what it takes of the server's durable counters isn't at its end.
abbrev pub CanTakeNext : Type 0
CanTakeNext = (j : Work) (w : World) (sc : Scene) (g : System) (p : Phase) (m : ℕ × Msg) (rest : Mail) → IsOnLine j w sc g → IsSpare j sc → IsScene w sc → InPhase j sc p → sc.mail ≡ m ∷ rest → HasNext m.1 sc.server → CanTake j sc p m
