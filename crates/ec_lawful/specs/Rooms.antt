-- What is proved of a refusal of room that a clerk takes, as contracts name it: all facts of the step under way stand behind its forgetting what it asked.
use Rattle.std.specs.Prelude.{◌≡◌, ℕ, T, List, [], ◌∷◌, ◌++◌, Option, None, Some}
use Rattle.ec_history.specs.History.{Each}
use Rattle.ec_history.specs.declared.entry.Answer.{Answer}
use Rattle.ec_protocol.specs.Clerk.{Doing, verdict, with_clerk}
use Rattle.ec_protocol.specs.declared.clerk.Clerk.{Clerk}
use Rattle.ec_protocol.specs.declared.clerk.Out.TheVariants as out
use Rattle.ec_protocol.specs.declared.clerk.Waiting.{Waiting}
use Rattle.ec_coherence.specs.System.{System, Ghost}
use Rattle.ec_coherence.specs.Steps.{doing_in}
use Rattle.ec_lawful.specs.OfClerkSteps.CallLaws.{Passes}
use Rattle.ec_lawful.specs.OfClerkSteps.Waits.{HasLine}
use Rattle.ec_coherence.specs.Answers.{Gives}
use Rattle.ec_lawful.specs.OfClerkSteps.Answering.{Suits, answered_clerk}
use Rattle.ec_lawful.specs.OfClerkSteps.Trying.{IsTrying}

-- The step under way stands with all facts and this one, and each waiting call has its line.
pub record IsCarried (g : System) (c b : ℕ) (Q : Doing → Ghost → Type 0) (d : Doing) (γ : Ghost) : Type 0 where
  pub trying : IsTrying g c b d γ
  pub lines : Each (HasLine (doing_in c b d γ g) c) d.clerk.waiting
  pub also : Q d γ

-- the clerk without this call, which it answers by its verdict
abbrev pub left_with : List Waiting → Doing → Clerk
left_with ws d = record (d.clerk) { waiting = ws }

abbrev pub answered_by : List Waiting → Waiting → Answer → Option ℕ → Doing → Doing
answered_by ws w a op d = record d { clerk = answered_clerk (verdict w.call (left_with ws d)) (left_with ws d); outs = d.outs ++ out.Answer w.no a op ∷ [] }

-- One waiting call is answered by its verdict: all facts stand behind it.
abbrev pub OneAnswers : System → ℕ → ℕ → (Doing → Ghost → Type 0) → Type 0
OneAnswers g c b Q = (d : Doing) (γ : Ghost) → IsCarried g c b Q d γ → (before rest : List Waiting) (w : Waiting) → d.clerk.waiting ≡ before ++ w ∷ rest → (a : Answer) (op : Option ℕ)
    → Gives g.durable.max_objects (left_with (before ++ rest) d) (verdict w.call (left_with (before ++ rest) d)) a op (answered_by (before ++ rest) w a op d).clerk.owed
    → Suits (verdict w.call (left_with (before ++ rest) d)) (left_with (before ++ rest) d) → Passes d.clerk w
    → (δ : Ghost) × IsCarried g c b Q (answered_by (before ++ rest) w a op d) δ

-- the clerk forgets what it asked
abbrev pub unasked : Doing → Doing
unasked d = with_clerk (λ k. record k { asking = None }) d

abbrev pub AskingsAreForgotten : Type 0
AskingsAreForgotten = (g : System) (c b s : ℕ) (d : Doing) (γ : Ghost) → IsTrying g c b d γ → Each (HasLine (doing_in c b d γ g) c) d.clerk.waiting → d.clerk.session ≡ Some s
    → IsTrying g c b (unasked d) γ × Each (HasLine (doing_in c b (unasked d) γ g) c) d.clerk.waiting
