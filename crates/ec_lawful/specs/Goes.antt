-- What is proved of the end of a step in which a call began, as contracts name it: each waiting call has its line.
use Rattle.std.specs.Prelude.{◌≡◌, ◌⊎◌, ℕ, true, Some, None}
use Rattle.ec_history.specs.History.{Each}
use Rattle.ec_plain.specs.declared.call.Call.{Call}
use Rattle.ec_protocol.specs.Clerk.{Doing}
use Rattle.ec_coherence.specs.System.{System, Ghost}
use Rattle.ec_coherence.specs.Steps.{call_of, calls_after, doing_in}
use Rattle.ec_lawful.specs.OfClerkSteps.Calls.{is_shown}
use Rattle.ec_lawful.specs.OfClerkSteps.Waits.{HasLine}
use Rattle.ec_lawful.specs.OfClerkSteps.Trying.{IsTrying}

-- where each call that was under way has its line, or was answered in the step
abbrev pub StepsEndLined : Type 0
StepsEndLined = (h : System) (c b : ℕ) (e : Doing) (δ : Ghost) → IsTrying h c b e δ → ((n l : ℕ) (cl : Call) → call_of c n h.calls ≡ Some (l, cl) → (is_shown h l ≡ true) ⊎ (call_of c n (calls_after c e.outs h.calls) ≡ None))
    → Each (HasLine (doing_in c b e δ h) c) e.clerk.waiting
