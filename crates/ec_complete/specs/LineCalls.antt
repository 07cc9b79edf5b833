-- A call of a clerk where all is idle, as contracts name it.
use Rattle.std.specs.Prelude.{◌≡◌, ◌<◌, ◌==◌, ℕ, T, false, nat_le, [], None, Some}
use Rattle.ec_base.specs.Limits.{last_counter}
use Rattle.ec_base.specs.Tables.{at}
use Rattle.ec_plain.specs.BoundedCalls.{is_bounded}
use Rattle.ec_plain.specs.declared.call.Call.{Call}
use Rattle.ec_base.specs.declared.ids.Age.{Age}
use Rattle.ec_sessions.specs.declared.slot.Slot.{Slot}
use Rattle.ec_durable.specs.WellFormed.{IsInOrder}
use Rattle.ec_log.specs.Log as log
use Rattle.ec_protocol.specs.Clerk.{add_call, begin}
use Rattle.ec_protocol.specs.World.{call}
use Rattle.ec_protocol.specs.declared.clerk.Clerk.{Clerk}
use Rattle.ec_protocol.specs.declared.world.World.{World}
use Rattle.ec_coherence.specs.Steps.{Stands}
use Rattle.ec_coherence.specs.System.{System}
use Rattle.ec_lawful.specs.Steps.{IsNewIn}
use Rattle.ec_lawful.specs.Whole.{Whole}
use Rattle.ec_quiet.specs.Phases.{Greets, InPhase, Phase}
use Rattle.ec_quiet.specs.Quiet.{IsIdle}
use Rattle.ec_quiet.specs.Scenes.{IsScene, Scene, done_by}
use Rattle.ec_quiet.specs.Works.{Calls, Work}
use Rattle.ec_quiet.specs.Goes.{MayGo}
use Rattle.ec_quiet.specs.Tries.{HasCounters}
use Rattle.ec_complete.specs.OfAgreedLines.Lines.{IsAt}
use Rattle.ec_complete.specs.WaitingCalls.{kept_volume, touched_by}
use Rattle.ec_complete.specs.Lines.{IsOnLine, next_object}
use Rattle.ec_complete.specs.FirstSteps.{IsTold}

-- All is idle in a world of which all facts hold, and the call is of a clerk that runs. The line is about what the call touches on the volume that is
-- kept, and the clerk's counters aren't at their end.
pub record IsCalled (j : Work) (cl : Call) (w : World) (sc : Scene) (g : System) (sl : Slot) (k : Clerk) : Type 0 where
  pub whole : Whole g
  pub stands : Stands w g
  pub scene : IsScene w sc
  pub idle : IsIdle sc
  pub order : IsInOrder sc.server.durable
  pub its : IsAt j sc sl k
  pub task : j.task ≡ Calls cl
  pub bounded : T (is_bounded cl)
  pub touched : j.touched ≡ touched_by cl (kept_volume g) (next_object sc j.clerk k)
  pub calls : nat_le last_counter k.calls ≡ false
  pub counters : HasCounters k
  pub small : log.is_full k.log ≡ false

abbrev pub CallsMayBegin : Type 0
CallsMayBegin = (j : Work) (l : ℕ) (cl : Call) (w : World) (sc : Scene) (g : System) (sl : Slot) (k : Clerk) → IsCalled j cl w sc g sl k → IsNewIn w l → MayGo j (add_call cl k)

abbrev pub CallsComeOn : Type 0
CallsComeOn = (j : Work) (l : ℕ) (cl : Call) (w : World) (sc : Scene) (g : System) (sl : Slot) (k : Clerk) (q : Phase) → IsCalled j cl w sc g sl k → IsNewIn w l → (call j.clerk l cl w).fault ≡ None
    → let now = done_by j.clerk (begin cl k) sc.mail sc in IsScene (call j.clerk l cl w).world now → InPhase j now q → IsTold q → (h : System) × IsOnLine j (call j.clerk l cl w).world now h

-- So it is where the clerk doesn't run: it starts with the call, and gets the server's next ids.
pub record IsCalledFirst (j : Work) (cl : Call) (w : World) (sc : Scene) (g : System) : Type 0 where
  pub whole : Whole g
  pub stands : Stands w g
  pub scene : IsScene w sc
  pub idle : IsIdle sc
  pub order : IsInOrder sc.server.durable
  pub clerk : j.clerk < 16
  pub none : at j.clerk sc.clerks ≡ None
  pub task : j.task ≡ Calls cl
  pub bounded : T (is_bounded cl)
  pub touched : j.touched ≡ touched_by cl (kept_volume g) sc.server.durable.next_id

abbrev pub StartsComeOn : Type 0
StartsComeOn = (j : Work) (l : ℕ) (cl : Call) (w : World) (sc now : Scene) (g : System) (age : Age) → IsCalledFirst j cl w sc g → IsNewIn w l → (call j.clerk l cl w).fault ≡ None → IsScene (call j.clerk l cl w).world now
    → now.server ≡ sc.server → ((a : ℕ) → (a == j.clerk) ≡ false → at a now.clerks ≡ at a sc.clerks) → InPhase j now (Greets age) → (h : System) × IsOnLine j (call j.clerk l cl w).world now h

-- The two systems began with the same volume; and while the line's call waits in this scene, the volume that is kept is the same in both.
pub record LeavesVolume (j : Work) (sc : Scene) (g h : System) : Type 0 where
  pub origin : h.origin ≡ g.origin
  pub kept : (k : Clerk) → at j.clerk sc.clerks ≡ Some k → (k.waiting ≡ [] → ⊥) → kept_volume h ≡ kept_volume g

-- So are the systems before and behind the first step; and the line is about what the call touches on that volume, with the id that its next object gets.
abbrev pub CallsLeaveKept : Type 0
CallsLeaveKept = (j : Work) (l : ℕ) (cl : Call) (w : World) (sc : Scene) (g : System) (sl : Slot) (k : Clerk) (q : Phase) → IsCalled j cl w sc g sl k → IsNewIn w l → (call j.clerk l cl w).fault ≡ None
    → let now = done_by j.clerk (begin cl k) sc.mail sc in IsScene (call j.clerk l cl w).world now → InPhase j now q → IsTold q
    → (h : System) × IsOnLine j (call j.clerk l cl w).world now h × LeavesVolume j now g h
    × ((a : Clerk) → at j.clerk now.clerks ≡ Some a → (a.waiting ≡ [] → ⊥) → j.touched ≡ touched_by cl (kept_volume h) (next_object now j.clerk a))

abbrev pub StartsLeaveKept : Type 0
StartsLeaveKept = (j : Work) (l : ℕ) (cl : Call) (w : World) (sc now : Scene) (g : System) (age : Age) → IsCalledFirst j cl w sc g → IsNewIn w l → (call j.clerk l cl w).fault ≡ None → IsScene (call j.clerk l cl w).world now
    → now.server ≡ sc.server → ((a : ℕ) → (a == j.clerk) ≡ false → at a now.clerks ≡ at a sc.clerks) → InPhase j now (Greets age)
    → (h : System) × IsOnLine j (call j.clerk l cl w).world now h × LeavesVolume j now g h
    × ((a : Clerk) → at j.clerk now.clerks ≡ Some a → (a.waiting ≡ [] → ⊥) → j.touched ≡ touched_by cl (kept_volume h) (next_object now j.clerk a))
