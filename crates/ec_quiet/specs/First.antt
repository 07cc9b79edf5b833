-- The first step of a line whose clerk starts with its call, and of one that pushes an operation, as contracts name it.
use Rattle.std.specs.Prelude.{◌≡◌, ◌<◌, ℕ, T, false, nat_lt, [], ◌++◌, None, Some}
use Rattle.ec_base.specs.Limits.{last_counter}
use Rattle.ec_base.specs.Tables.{at, keys}
use Rattle.ec_base.specs.declared.ids.Hold.{Hold}
use Rattle.ec_volume.specs.Update.{distinct, member}
use Rattle.ec_plain.specs.BoundedCalls.{is_bounded}
use Rattle.ec_plain.specs.declared.call.Call.{Call}
use Rattle.ec_sessions.specs.declared.slot.Slot.{Slot}
use Rattle.ec_durable.specs.Durable.{slot}
use Rattle.ec_log.specs.Log as log
use Rattle.ec_cache.specs.declared.resolve.verdict.Verdict.TheVariants.{Need}
use Rattle.ec_protocol.specs.Clerk.{Doing, add_call, begin, new_clerk, push, start, verdict}
use Rattle.ec_protocol.specs.declared.clerk.Clerk.{Clerk}
use Rattle.ec_quiet.specs.Phases.{InPhase, Phase, backs}
use Rattle.ec_quiet.specs.Quiet.{IsIdle}
use Rattle.ec_quiet.specs.Scenes.{Scene, done_by}
use Rattle.ec_quiet.specs.Works.{Calls, Pushes, Work}
use Rattle.ec_quiet.specs.Bounds.{IsFirstPhase}

-- The line's work is in a phase in which lines begin, and no token is on its way back.
pub record HasFirst (j : Work) (sc : Scene) : Type 0 where
  pub phase : Phase
  pub first : IsFirstPhase phase
  pub comes : InPhase j sc phase
  pub none_back : backs j sc.mail ≡ []

-- The clerk doesn't run. It starts with a boot above those of its sessions, and with this call; what the call lacks on an empty cache is touched.
pub record IsStart (j : Work) (sc : Scene) (boot : ℕ) (cl : Call) : Type 0 where
  pub clerk : j.clerk < 16
  pub none : at j.clerk sc.clerks ≡ None
  pub boot_is : nat_lt last_counter boot ≡ false
  pub later : (sl : Slot) → slot sc.server.durable j.clerk ≡ Some sl → (sl.age).boot < boot
  pub session : j.session ≡ sc.server.durable.next_session
  pub number : j.number ≡ sc.server.number
  pub task : j.task ≡ Calls cl
  pub bounded : T (is_bounded cl)
  pub touches : (x : ℕ) (h : Hold) → verdict cl (add_call cl (new_clerk j.clerk boot)) ≡ Need x h → T (member x j.touched)

-- the start and the step of its call
abbrev pub start_calling : ℕ → ℕ → Call → Doing
start_calling c boot cl = let d = start c boot in record (begin cl d.clerk) { outs = d.outs ++ (begin cl d.clerk).outs }

-- Where all is idle, it greets; no counter is spent.
abbrev pub StartsGreet : Type 0
StartsGreet = (j : Work) (sc : Scene) (boot : ℕ) (cl : Call) → IsIdle sc → IsStart j sc boot cl
    → HasFirst j (done_by j.clerk (start_calling j.clerk boot cl) sc.mail sc) × ((start j.clerk boot).spent ≡ None) × ((begin cl (start j.clerk boot).clerk).spent ≡ None)

-- The clerk runs, in its session, and pushes an operation of it; its batches can be counted.
pub record IsPush (j : Work) (sc : Scene) (sl : Slot) (k : Clerk) (n : ℕ) : Type 0 where
  pub clerk : j.clerk < 16
  pub there : at j.clerk sc.clerks ≡ Some k
  pub slot : slot sc.server.durable j.clerk ≡ Some sl
  pub session : sl.session ≡ j.session
  pub number : j.number ≡ sc.server.number
  pub task : j.task ≡ Pushes n
  pub once : T (distinct (keys k.cache.held))
  pub batches : log.batches_are_spent k.log ≡ false

-- Where all is idle, a batch goes out, or nothing is left to do; no counter is spent.
abbrev pub PushesBegin : Type 0
PushesBegin = (j : Work) (sc : Scene) (sl : Slot) (k : Clerk) (n : ℕ) → IsIdle sc → IsPush j sc sl k n → HasFirst j (done_by j.clerk (push n k) sc.mail sc) × ((push n k).spent ≡ None)
