-- Calls that wait: a try of one doesn't answer it. Between two steps each waiting call does, and a line says so.
use Rattle.std.specs.Prelude.{◌≡◌, ◌⊎◌, ℕ, T, Bool, true, false, not, ◌||◌, List, [], ◌∷◌, ◌++◌, Option, None, Some}
use Rattle.ec_plain.specs.declared.call.Outcome.{Outcome}
use Rattle.ec_volume.specs.declared.update.Update.{Update}
use Rattle.ec_history.specs.History.{Each}
use Rattle.ec_log.specs.Log.{first, is_full, ops_are_spent}
use Rattle.ec_cache.specs.declared.resolve.verdict.Verdict.{Verdict}
use Rattle.ec_cache.specs.declared.resolve.verdict.Verdict.TheVariants.{Need, Lost, NeedIds, Done}
use Rattle.ec_protocol.specs.Clerk.{awaited, is_owing, is_ready, suits, verdict}
use Rattle.ec_protocol.specs.declared.clerk.Clerk.{Clerk}
use Rattle.ec_protocol.specs.declared.clerk.Waiting.{Waiting}
use Rattle.ec_coherence.specs.System.{System}
use Rattle.ec_coherence.specs.Steps.{call_of}
use Rattle.ec_coherence.specs.CommitLaws.{AllAgree}
use Rattle.ec_lawful.specs.OfClerkSteps.Calls.{CallsAgree, is_shown}

-- an outcome that isn't answered: what it awaits isn't durable, or its update can't be issued
abbrev pub waits_with : Waiting → Outcome → Clerk → Option Update → Bool
waits_with w o k None = elim (awaited w.call o) [ None ↦ false | Some a ↦ is_owing w.begun (first a k.log) ]
waits_with w o k (Some u) = not (suits u k.cache) || (is_full k.log || ops_are_spent k.log)

abbrev pub waits_by : Waiting → Clerk → Verdict → Bool
waits_by w k (Need x h) = true
waits_by w k (NeedIds xs) = true
waits_by w k (Lost ns xs) = false
waits_by w k (Done o) = waits_with w o k o.update

-- a try of the call doesn't answer it
abbrev pub does_wait : Waiting → Clerk → Bool
does_wait w k = waits_by w k (verdict w.call k)

-- the call has its line, which was shown
abbrev pub HasLine : System → ℕ → Waiting → Type 0
HasLine g c w = (l : ℕ) × (call_of c w.no g.calls ≡ Some (l, w.call)) × (is_shown g l ≡ true)

-- no kept recall is ready
abbrev pub NoneReady : Clerk → Type 0
NoneReady k = Each (λ r. T (not (is_ready r k))) k.recalls

-- Between two steps each call of a running start waits, and has its line; and no kept recall is ready.
pub record IsAtRest (g : System) (c : ℕ) (k : Clerk) : Type 0 where
  pub calls : Each (λ w. T (does_wait w k) × HasLine g c w) k.waiting
  pub recalls : NoneReady k

abbrev pub AreAtRest : System → Type 0
AreAtRest g = (c b : ℕ) (k : Clerk) → g.running c ≡ Some b → g.clerks c b ≡ Some k → IsAtRest g c k

-- In a step under way each has its line, but perhaps the last one, which began in this step; then the others wait.
abbrev pub AreInTurn : System → ℕ → Clerk → Type 0
AreInTurn g c k = Each (HasLine g c) k.waiting ⊎ ((earlier : List Waiting) × (w : Waiting) × (k.waiting ≡ earlier ++ w ∷ []) × Each (λ v. T (does_wait v k) × HasLine g c v) earlier)

-- all facts of a state between two steps
abbrev pub WholeAgrees : System → Type 0
WholeAgrees g = AllAgree g × CallsAgree g × AreAtRest g
