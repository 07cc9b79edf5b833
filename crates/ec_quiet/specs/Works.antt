-- The work of a line of a script: what its clerk is to do.
use Rattle.std.specs.Prelude.{◌≡◌, ◌==◌, ◌+◌, ℕ, Bool, true, false, List, [], ◌∷◌, Option, None, Some}
use Rattle.ec_plain.specs.declared.call.Call.{Call}
use Rattle.ec_plain.specs.declared.call.Call.TheVariants as call
use Rattle.ec_log.specs.declared.state.Asked.{Asked}
use Rattle.ec_log.specs.declared.state.Asked.TheVariants.{Op}
use Rattle.ec_cache.specs.declared.resolve.verdict.Verdict.{Verdict}
use Rattle.ec_cache.specs.declared.resolve.verdict.Verdict.TheVariants.{Need, Lost, NeedIds, Done}
use Rattle.ec_protocol.specs.Clerk.{awaited, verdict}
use Rattle.ec_protocol.specs.declared.clerk.Clerk.{Clerk}
use Rattle.ec_protocol.specs.declared.clerk.Waiting.{Waiting}

-- it answers a call, or makes an operation durable that is pushed
pub data Task : Type 0 where
  Calls : Call → Task
  Pushes : ℕ → Task

-- The clerk of the line; its session, or the one that it's to get; the objects that its call touches, and the first of its free ids; and the
-- last number of a token when the line began.
pub record Work : Type 0 where
  pub clerk : ℕ
  pub session : ℕ
  pub task : Task
  pub touched : List ℕ
  pub number : ℕ

-- A call of this kind waits until operations are durable.
abbrev pub saves : Call → Bool
saves (call.Fsync p) = true
saves call.Sync = true
saves _ = false

abbrev pub is_saving : Task → Bool
is_saving (Calls cl) = saves cl
is_saving (Pushes n) = true

-- the call waits, the only one, and no operation was issued since it began; or the operation is pushed
abbrev pub HasTask : Task → Clerk → Type 0
HasTask (Calls cl) k = (w : Waiting) × (k.waiting ≡ w ∷ []) × (w.call ≡ cl) × (w.begun + 1 ≡ k.log.next) × (k.pushes ≡ [])
HasTask (Pushes n) k = (k.waiting ≡ []) × (k.pushes ≡ n ∷ [])

-- nothing waits
abbrev pub NothingWaits : Clerk → Type 0
NothingWaits k = (k.waiting ≡ []) × (k.pushes ≡ [])

-- what is asked to be durable, where that's known
abbrev pub asked_in : Call → Verdict → Option Asked
asked_in cl (Done o) = awaited cl o
asked_in cl (Need x h) = None
asked_in cl (NeedIds xs) = None
asked_in cl (Lost ns xs) = None

abbrev pub asked : Task → Clerk → Option Asked
asked (Calls cl) k = asked_in cl (verdict cl k)
asked (Pushes n) k = Some (Op n)
