-- In each phase of a line only what the line asks for is under way to be durable.
use Rattle.std.specs.Prelude.{◌≡◌, ◌⊎◌, ◌==◌, ℕ, T, false, List, ◌∷◌, Option, Some, ⊤}
use Rattle.ec_base.specs.Tables.{at, keys}
use Rattle.ec_volume.specs.Update.{member}
use Rattle.ec_volume.specs.Volume.{Images}
use Rattle.ec_history.specs.History.{Each}
use Rattle.ec_history.specs.declared.shown.Shown.{Shown}
use Rattle.ec_history.specs.declared.shown.Shown.TheVariants.{Durable}
use Rattle.ec_sessions.specs.declared.slot.Slot.{Slot}
use Rattle.ec_plain.specs.declared.call.Call.{Call}
use Rattle.ec_wire.specs.declared.msg.Msg.{Msg}
use Rattle.ec_log.specs.Log.{closure_of}
use Rattle.ec_log.specs.declared.state.Asked.{Asked}
use Rattle.ec_log.specs.declared.state.Asked.TheVariants.{Object, Op}
use Rattle.ec_log.specs.declared.state.LogState.{LogState}
use Rattle.ec_cache.specs.OfResolve.Agreement.{Shows}
use Rattle.ec_protocol.specs.Clerk.{add_call, begin, first_id, push, start}
use Rattle.ec_protocol.specs.World.{deliver, runs}
use Rattle.ec_protocol.specs.declared.clerk.Clerk.{Clerk}
use Rattle.ec_protocol.specs.declared.world.Sent.{Sent}
use Rattle.ec_protocol.specs.declared.world.World.{World}
use Rattle.ec_quiet.specs.Facts.{IsIn}
use Rattle.ec_quiet.specs.Phases.{Phase, Grants, Saved, InPhase}
use Rattle.ec_quiet.specs.Quiet.{IsIdle}
use Rattle.ec_quiet.specs.Scenes.{Mail, Scene, delivered, done_by}
use Rattle.ec_quiet.specs.Works.{Task, Calls, Pushes, Work, asked}
use Rattle.ec_quiet.specs.Goes.{MayGo}
use Rattle.ec_quiet.specs.Takings.{taking}
use Rattle.ec_quiet.specs.OfDeliveries.Deliveries.{having_kept}
use Rattle.ec_quiet.specs.OfDeliveries.Leading.{CanTake}
use Rattle.ec_quiet.specs.OfDeliveries.Behind.{saved_by}

abbrev pub saved : Images → Task → Option Asked
saved v (Calls cl) = saved_by v cl
saved v (Pushes n) = Some (Op n)

-- The line asks this of the clerk c: of its own clerk what it is to make durable, of any other one what is on an object that its call touches.
abbrev pub AsksOf : Images → Work → ℕ → Asked → Type 0
AsksOf v j c a = ((c ≡ j.clerk) × (saved v j.task ≡ Some a)) ⊎ (((c == j.clerk) ≡ false) × (x : ℕ) × (a ≡ Object x) × T (member x j.touched))

-- Batches.

-- These numbers are of operations in a closure that the line asks of the clerk with this log.
pub record AreAsked (v : Images) (j : Work) (c : ℕ) (l : LogState) (ns : List ℕ) : Type 0 where
  pub what : Asked
  pub asks : AsksOf v j c what
  pub inside : (n : ℕ) → T (member n ns) → T (member n (keys (closure_of what l)))

-- So it is with each batch of the log that is under way.
abbrev pub BatchesAreAsked : Images → Work → ℕ → LogState → Type 0
BatchesAreAsked v j c l = Each {A = ℕ × List ℕ} (λ b. AreAsked v j c l b.1) l.batches

-- And with each clerk: all that is under way to be durable is what the line asks for.
abbrev pub IsBehind : Images → Work → Scene → Type 0
IsBehind v j sc = (c : ℕ) (k : Clerk) → at c sc.clerks ≡ Some k → BatchesAreAsked v j c k.log

-- What is asked of a clerk before the try of its call: what that waits for is what the line is to make durable.

abbrev pub Sees : Images → Work → Clerk → Type 0
Sees v j k = (a : Asked) → asked j.task k ≡ Some a → saved v j.task ≡ Some a

-- so it is where its cache shows the volume
abbrev pub ShownIsSeen : Type 0
ShownIsSeen = (v : Images) (j : Work) (k : Clerk) → Shows k.cache (first_id k.ids) v → Sees v j k

-- of the clerk that takes the message of a phase
abbrev pub MaySee : Images → Work → Scene → Phase → Type 0
MaySee v j sc (Grants x h n) = (k : Clerk) → at j.clerk sc.clerks ≡ Some k → Sees v j (taking x h n sc k).clerk
MaySee v j sc (Saved b more) = (k : Clerk) → at j.clerk sc.clerks ≡ Some k → Sees v j (having_kept b k)
MaySee v j sc _ = ⊤

-- Statements.

-- Where all is idle nothing is under way; and the first step of a line, a call of a clerk that runs or of one that starts or a push, sends what the line asks for.
abbrev pub IdleIsBehind : Type 0
IdleIsBehind = (v : Images) (j : Work) (sc : Scene) → IsIdle sc → IsBehind v j sc

abbrev pub CallsBeginBehind : Type 0
CallsBeginBehind = (v : Images) (j : Work) (sc : Scene) (k : Clerk) (cl : Call) (mail : Mail) → IsIdle sc → at j.clerk sc.clerks ≡ Some k → MayGo j (add_call cl k) → Sees v j (add_call cl k)
    → IsBehind v j (done_by j.clerk (begin cl k) mail sc)

abbrev pub StartsBeginBehind : Type 0
StartsBeginBehind = (v : Images) (j : Work) (sc : Scene) (boot : ℕ) (cl : Call) (mail : Mail) → IsIdle sc → IsBehind v j (done_by j.clerk (begin cl (start j.clerk boot).clerk) mail sc)

abbrev pub PushesBeginBehind : Type 0
PushesBeginBehind = (v : Images) (j : Work) (sc : Scene) (k : Clerk) (n : ℕ) (mail : Mail) → IsIdle sc → at j.clerk sc.clerks ≡ Some k → j.task ≡ Pushes n → IsBehind v j (done_by j.clerk (push n k) mail sc)

-- Each delivery in a phase keeps it.
abbrev pub DeliveriesStayBehind : Type 0
DeliveriesStayBehind = (v : Images) (j : Work) (sc : Scene) (p : Phase) (m : ℕ × Msg) (rest : Mail) → InPhase j sc p → CanTake j sc p m → MaySee v j sc p → sc.mail ≡ m ∷ rest → IsBehind v j sc
    → IsBehind v j (delivered m.0 m.1 rest sc)

-- A durable line names operations in a closure that the line of the script asks of their clerk, which is in its session.
abbrev pub IsLineBehind : Images → Work → Scene → Shown → Type 0
IsLineBehind v j sc (Durable c ns) = (k : Clerk) × (sl : Slot) × (at c sc.clerks ≡ Some k) × IsIn sc.server c sl k × AreAsked v j c k.log ns
IsLineBehind v j sc _ = ⊤

-- so does each that a delivery shows, in a world whose next message is that of the scene
abbrev pub LinesAreBehind : Type 0
LinesAreBehind = (v : Images) (j : Work) (sc : Scene) (p : Phase) (w : World) (i : ℕ) (x : Sent) (rest : Mail) → InPhase j sc p → IsBehind v j sc → at i w.pool ≡ Some x → sc.mail ≡ (x.clerk, x.msg) ∷ rest
    → Each (IsLineBehind v j sc) (deliver runs i w).shown
