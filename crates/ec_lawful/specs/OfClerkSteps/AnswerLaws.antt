-- What is proved of answers, as contracts name it: all facts stand behind them.
use Rattle.std.specs.Prelude.{◌≡◌, ◌==◌, ◌⊎◌, ℕ, T, false, is_some, List, [], ◌∷◌, ◌++◌, Option, None, Some}
use Rattle.ec_base.specs.declared.ids.Age.{Age}
use Rattle.ec_plain.specs.declared.call.Call.{Call}
use Rattle.ec_history.specs.History.{Covers, Each, Op}
use Rattle.ec_history.specs.Placing.{MayFollow, begun, watch}
use Rattle.ec_history.specs.declared.entry.Answer.{Answer}
use Rattle.ec_history.specs.declared.shown.Shown.TheVariants.{Answered}
use Rattle.ec_protocol.specs.Clerk.{Doing, Tried, Waits, Answered as answers, try, try_all, verdict, with_clerk}
use Rattle.ec_protocol.specs.declared.clerk.Clerk.{Clerk}
use Rattle.ec_protocol.specs.declared.clerk.Out.TheVariants as out
use Rattle.ec_protocol.specs.declared.clerk.Waiting.{Waiting}
use Rattle.ec_coherence.specs.System.{System, Ghost, is_open}
use Rattle.ec_coherence.specs.Events.{IsUncut, shown_boot}
use Rattle.ec_coherence.specs.Invariant.{Invariant}
use Rattle.ec_coherence.specs.Steps.{call_of, doing_in}
use Rattle.ec_coherence.specs.ChangeLaws.{IsInIt}
use Rattle.ec_coherence.specs.CommitLaws.{AllAgree}
use Rattle.ec_coherence.specs.Starts.{StartsAgree}
use Rattle.ec_coherence.specs.Watches.{FirstsAgree, WatchAgrees}
use Rattle.ec_lawful.specs.OfClerkSteps.CallLaws.{Passes}
use Rattle.ec_lawful.specs.OfClerkSteps.Waits.{HasLine}
use Rattle.ec_coherence.specs.Answers.{Gives, based, fresh_of}
use Rattle.ec_coherence.specs.Comes.{after_answer, entry_next}
use Rattle.ec_lawful.specs.OfClerkSteps.Answering.{Suits, answered_clerk, answering}
use Rattle.ec_lawful.specs.OfClerkSteps.Trying.{AnswersWith, IsTrying}
use Rattle.ec_lawful.specs.OfClerkSteps.Zeros.{ZerosAgree}

-- what the entry of the answer covers is durable
abbrev pub IsSettled : System → ℕ → ℕ → Clerk → ℕ → Call → Answer → Option ℕ → Type 0
IsSettled g c b k l cl a op =
    (o : Op) → Covers (based g (fresh_of k)) g.ghost.history (entry_next g c b l cl a op) o.clerk (shown_boot g o.clerk o.boot) o.number → T (g.ghost.is_durable o)

-- a clerk in its open session answers a call by its verdict
abbrev pub LiveAnswersStand : Type 0
LiveAnswersStand = (g : System) → AllAgree g → ZerosAgree g → (c s : ℕ) (age : Age) (k : Clerk) → IsInIt g c s age k → g.running c ≡ Some age.boot → T (is_open g s)
    → (n l : ℕ) (cl : Call) (a : Answer) (op : Option ℕ) → call_of c n g.calls ≡ Some (l, cl)
    → Gives g.durable.max_objects k (verdict cl k) a op (answered_clerk (verdict cl k) k).owed → Suits (verdict cl k) k
    → MayFollow g.ghost.shown (Answered l c cl a op) → IsSettled g c age.boot k l cl a op
    → let h = after_answer g c age.boot k (answering (answered_clerk (verdict cl k) k) n a op) l cl a op in AllAgree h × ZerosAgree h

-- Outside a session.

-- the lines show each clerk as it is, where the next line of this one begins its start
abbrev pub IsBegun : System → ℕ → Type 0
IsBegun g c = ((d : ℕ) → (d == c) ≡ false → WatchAgrees g d (watch d g.ghost.shown)) × WatchAgrees g c (begun (watch c g.ghost.shown))

-- a clerk without a session that isn't cut off answers a call by its verdict, perhaps by the first line of its start
abbrev pub OutsideAnswersStand : Type 0
OutsideAnswersStand = (g : System) → Invariant g → FirstsAgree g.ghost → StartsAgree g → ZerosAgree g → (c b : ℕ) (k : Clerk) → IsBegun g c → g.running c ≡ Some b → g.clerks c b ≡ Some k → k.session ≡ None → IsUncut g c k
    → (n l : ℕ) (cl : Call) (a : Answer) (op : Option ℕ) → call_of c n g.calls ≡ Some (l, cl)
    → Gives g.durable.max_objects k (verdict cl k) a op (answered_clerk (verdict cl k) k).owed → Suits (verdict cl k) k
    → MayFollow g.ghost.shown (Answered l c cl a op) → IsSettled g c b k l cl a op
    → let h = after_answer g c b k (answering (answered_clerk (verdict cl k) k) n a op) l cl a op in AllAgree h × ZerosAgree h

-- Tries.

-- What a try of a call comes to: it waits on, and the step stands with the same ghosts, unless a counter is spent; or it was answered, and leaves the waiting calls, which all have their lines.
abbrev pub IsTried : System → ℕ → ℕ → Doing → Ghost → List Waiting → Waiting → List Waiting → Tried → Type 0
IsTried g c b d γ before w rest (Waits e) = T (is_some e.spent) ⊎ (IsTrying g c b e γ × (e.clerk.waiting ≡ before ++ w ∷ rest))
IsTried g c b d γ before w rest (answers e) =
    (l : ℕ) × (a : Answer) × (op : Option ℕ) × (δ : Ghost) × (call_of c w.no (doing_in c b d γ g).calls ≡ Some (l, w.call)) × AnswersWith g c b d γ l w.call a op δ × IsTrying g c b (with_clerk (λ k. record k { waiting = before ++ rest }) e) δ
    × Each (HasLine (doing_in c b (with_clerk (λ k. record k { waiting = before ++ rest }) e) δ g) c) (before ++ rest)

abbrev pub TriesStand : Type 0
TriesStand = (g : System) (c b : ℕ) (d : Doing) (γ : Ghost) → IsTrying g c b d γ → (before rest : List Waiting) (w : Waiting) → d.clerk.waiting ≡ before ++ w ∷ rest → IsTried g c b d γ before w rest (try w d)

-- all waiting calls are tried
abbrev pub AllTriesStand : Type 0
AllTriesStand = (g : System) (c b : ℕ) (d : Doing) (γ : Ghost) → IsTrying g c b d γ → T (is_some (try_all d).spent) ⊎ ((δ : Ghost) × IsTrying g c b (try_all d) δ)

-- With a further fact.

-- It goes on with the step, where nothing is shown, and behind each answer.
pub record GoesOnWith (g : System) (c b : ℕ) (Q : Doing → Ghost → Type 0) : Type 0 where
  pub stays : (d e : Doing) (γ : Ghost) → Q d γ → Q e γ
  pub answers : (d e : Doing) (γ δ : Ghost) (l : ℕ) (cl : Call) (a : Answer) (op : Option ℕ) → AllAgree (doing_in c b d γ g) → AllAgree (doing_in c b e δ g) → AnswersWith g c b d γ l cl a op δ → Q d γ → Q e δ

abbrev pub AreLined : System → ℕ → ℕ → Doing → Ghost → Type 0
AreLined g c b d γ = Each (HasLine (doing_in c b d γ g) c) d.clerk.waiting

-- the step without this call, which it answers by its verdict
abbrev pub answered_so : List Waiting → Waiting → Answer → Option ℕ → Doing → Doing
answered_so ws w a op d = let left : Clerk = record (d.clerk) { waiting = ws } in record d { clerk = answered_clerk (verdict w.call left) left; outs = d.outs ++ out.Answer w.no a op ∷ [] }

-- one waiting call is answered, where all have their lines
abbrev pub OneCarries : System → ℕ → ℕ → (Doing → Ghost → Type 0) → Type 0
OneCarries g c b Q = GoesOnWith g c b Q → (d : Doing) (γ : Ghost) → IsTrying g c b d γ → AreLined g c b d γ → Q d γ
    → (before rest : List Waiting) (w : Waiting) → d.clerk.waiting ≡ before ++ w ∷ rest → (a : Answer) (op : Option ℕ)
    → let left : Clerk = record (d.clerk) { waiting = before ++ rest } in Gives g.durable.max_objects left (verdict w.call left) a op (answered_clerk (verdict w.call left) left).owed → Suits (verdict w.call left) left → Passes d.clerk w
    → (δ : Ghost) × IsTrying g c b (answered_so (before ++ rest) w a op d) δ × AreLined g c b (answered_so (before ++ rest) w a op d) δ × Q (answered_so (before ++ rest) w a op d) δ

-- all of them are tried
abbrev pub TriesCarry : System → ℕ → ℕ → (Doing → Ghost → Type 0) → Type 0
TriesCarry g c b Q = GoesOnWith g c b Q → (d : Doing) (γ : Ghost) → IsTrying g c b d γ → Q d γ
    → T (is_some (try_all d).spent) ⊎ ((δ : Ghost) × IsTrying g c b (try_all d) δ × Q (try_all d) δ × (AreLined g c b d γ → AreLined g c b (try_all d) δ))
