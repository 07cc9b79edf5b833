-- Calls that need no more than what is held, beside others that wait.
use Rattle.std.specs.Prelude.{◌≡◌, ◌+◌, ℕ, T, Bool, true, false, not, ◌&&◌, nat_le, List, ◌∷◌, ◌++◌, Option, None, Some, is_none}
use Rattle.ec_base.specs.Limits.{last_counter}
use Rattle.ec_volume.specs.declared.update.Update.{Update}
use Rattle.ec_plain.specs.declared.call.Call.{Call}
use Rattle.ec_plain.specs.declared.call.Outcome.{Outcome}
use Rattle.ec_history.specs.History.{Each}
use Rattle.ec_history.specs.declared.entry.Answer.TheVariants as answer
use Rattle.ec_log.specs.Log.{first, is_full, ops_are_spent}
use Rattle.ec_log.specs.declared.state.Asked.{Asked}
use Rattle.ec_cache.specs.declared.resolve.verdict.Verdict.TheVariants.{Done}
use Rattle.ec_protocol.specs.Clerk.{awaited, begin, suits, verdict}
use Rattle.ec_protocol.specs.declared.clerk.Clerk.{Clerk}
use Rattle.ec_protocol.specs.declared.clerk.Out.{Out}
use Rattle.ec_protocol.specs.declared.clerk.Out.TheVariants as out
use Rattle.ec_lawful.specs.OfClerkSteps.Waits.{NoneReady, does_wait}

-- Each of its calls waits and none of its recalls is ready, as behind each step (`IsAtRest` of ec_clerk_steps); and a call's number is left.
pub record IsResting (k : Clerk) : Type 0 where
  pub number : nat_le last_counter k.calls ≡ false
  pub calls : Each (λ w. T (does_wait w k)) k.waiting
  pub recalls : NoneReady k

-- nothing that it would wait for is undurable
abbrev pub is_durable : Option Asked → Clerk → Bool
is_durable None k = true
is_durable (Some a) k = is_none (first a k.log)

-- The update suits the images held, and can be issued: fewer than so many operations are undurable. A call without one waits for none.
abbrev pub may_end : Call → Outcome → Option Update → Clerk → Bool
may_end c o None k = is_durable (awaited c o) k
may_end c o (Some u) k = suits u k.cache && not (is_full k.log) && not (ops_are_spent k.log)

-- the number of its operation
abbrev pub op_of : Option Update → Clerk → Option ℕ
op_of None k = None
op_of (Some u) k = Some k.log.next

abbrev pub IsAmong : Out → List Out → Type 0
IsAmong o outs = (before : List Out) × (after : List Out) × (outs ≡ before ++ o ∷ after)

abbrev pub HeldCallsArePrompt : Type 0
HeldCallsArePrompt =
    (k : Clerk) (c : Call) (o : Outcome) → IsResting k → verdict c k ≡ Done o → may_end c o o.update k ≡ true
    → IsAmong (out.Answer (k.calls + 1) (answer.Reply o.reply) (op_of o.update k)) (begin c k).outs
