-- What is proved of a whole step of a clerk around the tries of its waiting calls, as contracts name it: all facts stand.
use Rattle.std.specs.Prelude.{◌≡◌, ◌==◌, ◌⊎◌, ℕ, T, false, Some, is_some, ⊤}
use Rattle.ec_history.specs.History.{Each}
use Rattle.ec_wire.specs.Messages.{is_sound}
use Rattle.ec_wire.specs.declared.msg.Msg.{Msg}
use Rattle.ec_wire.specs.declared.msg.Msg.TheVariants.{Grant, Ids, Kept, Recall, Restarted}
use Rattle.ec_protocol.specs.Clerk.{Doing, Tried, Waits, Answered, doing, evict, keep_push, resend, taken, try, try_all}
use Rattle.ec_protocol.specs.declared.clerk.Clerk.{Clerk}
use Rattle.ec_protocol.specs.declared.clerk.Waiting.{Waiting}
use Rattle.ec_coherence.specs.System.{System, Ghost}
use Rattle.ec_coherence.specs.Sessions as sessions
use Rattle.ec_coherence.specs.Tokens.{Fits, view}
use Rattle.ec_coherence.specs.Steps.{doing_in}
use Rattle.ec_lawful.specs.OfClerkSteps.CallLaws.{prepared}
use Rattle.ec_lawful.specs.OfClerkSteps.Waits.{HasLine, IsAtRest, NoneReady, does_wait}
use Rattle.ec_lawful.specs.OfClerkSteps.Orderly.{OrderlyAgree}
use Rattle.ec_lawful.specs.OfClerkSteps.Counts.{CountsAgree}
use Rattle.ec_lawful.specs.Doubts.{DoubtAgrees}
use Rattle.ec_lawful.specs.OfClerkSteps.Frees.{FullsAgree}
use Rattle.ec_lawful.specs.OfClerkSteps.Trying.{IsTrying}
use Rattle.ec_lawful.specs.Steps.{StepIsDone}
use Rattle.ec_lawful.specs.Whole.{ShowsAll, Whole}

-- The step under way stands with all facts, each waiting call has its line, and the lines show what they should.
pub record IsLined (g : System) (c b : ℕ) (d : Doing) (γ : Ghost) : Type 0 where
  pub trying : IsTrying g c b d γ
  pub lines : Each (HasLine (doing_in c b d γ g) c) d.clerk.waiting
  pub shows : ShowsAll (doing_in c b d γ g)

-- so a step of a running clerk begins, also where an operation is pushed
abbrev pub StepsBegin : Type 0
StepsBegin = (g : System) → Whole g → (c b : ℕ) (k : Clerk) → g.running c ≡ Some b → g.clerks c b ≡ Some k → IsLined g c b (doing k) g.ghost × ((n : ℕ) → IsLined g c b (keep_push n (doing k)) g.ghost)

-- it stands behind a function, with the same ghosts
abbrev pub KeepsLined : (Doing → Doing) → Type 0
KeepsLined f = (g : System) (c b : ℕ) (d : Doing) (γ : Ghost) → IsLined g c b d γ → IsLined g c b (f d) γ

-- recalls are answered and pushes asked for, where the clerk has a session; and tokens beyond the capacity go back
abbrev pub StepsAreReady : Type 0
StepsAreReady = KeepsLined prepared × KeepsLined evict

-- also where a call began in the step, before the others, of which no kept recall is ready
abbrev pub CallsAreReady : Type 0
CallsAreReady = (g : System) (c b : ℕ) (d : Doing) (γ : Ghost) → IsTrying g c b d γ → NoneReady d.clerk → IsTrying g c b (prepared d) γ × NoneReady (prepared d).clerk

-- messages of its session that answer no call, and no asking for ids
abbrev pub IsPlain : Msg → Type 0
IsPlain (Grant s e x n h i) = ⊤
IsPlain (Recall s e x n h) = ⊤
IsPlain (Kept s e b) = ⊤
IsPlain (Ids s e got n first) = ⊤
IsPlain (Restarted s e) = ⊤
IsPlain _ = ⊥

abbrev pub PlainsKeep : Type 0
PlainsKeep = (g : System) (c b s : ℕ) (d : Doing) (γ : Ghost) → IsLined g c b d γ → d.clerk.session ≡ Some s → (m : Msg) → IsPlain m → sessions.Fits (doing_in c b d γ g) c m → T (is_sound m) → Fits (view (doing_in c b d γ g)) m
    → IsLined g c b (taken m d) γ

-- A call that is tried waits on, with the same ghosts, unless a counter is spent; of one that is answered nothing is said here.
abbrev pub WaitsOn : System → ℕ → ℕ → Doing → Ghost → Tried → Type 0
WaitsOn g c b d γ (Waits e) = T (is_some e.spent) ⊎ (IsTrying g c b e γ × (e.clerk.waiting ≡ d.clerk.waiting))
WaitsOn g c b d γ (Answered e) = ⊤

abbrev pub WaitsStand : Type 0
WaitsStand = (g : System) (c b : ℕ) (d : Doing) (γ : Ghost) → IsTrying g c b d γ → (w : Waiting) → WaitsOn g c b d γ (try w d)

-- What a step of the clerk c leaves alone, or has from the state in which it began.
pub record Beside (g : System) (c : ℕ) : Type 0 where
  pub orderly : OrderlyAgree g
  pub counts : CountsAgree g
  pub doubts : DoubtAgrees g
  pub others : (f a : ℕ) (k : Clerk) → (f == c) ≡ false → g.running f ≡ Some a → g.clerks f a ≡ Some k → IsAtRest g f k

-- The end of a step, behind its tries: the tokens that are too many go back, and all starts are at rest.
abbrev pub StepsEnd : Type 0
StepsEnd = (g : System) (c b : ℕ) (d : Doing) (γ : Ghost) → Beside g c → IsLined g c b d γ → NoneReady d.clerk → Each (λ w. T (does_wait w d.clerk)) d.clerk.waiting → FullsAgree (doing_in c b (evict d) γ g) → Whole (doing_in c b (evict d) γ g)

-- a clerk sends again what is outstanding, or greets
abbrev pub ResendsKeep : Type 0
ResendsKeep = (g : System) → Whole g → (c b : ℕ) (k : Clerk) → g.running c ≡ Some b → g.clerks c b ≡ Some k → StepIsDone Whole g c b (resend k)

-- What is to be proved of the tries: the step stands behind them, unless a counter is spent, and each call has its line that had it before.
abbrev pub TriesAll : System → ℕ → ℕ → Type 0
TriesAll g c b = (d : Doing) (γ : Ghost) → IsTrying g c b d γ → ShowsAll (doing_in c b d γ g)
    → T (is_some (try_all d).spent)
    ⊎ ((δ : Ghost) × IsTrying g c b (try_all d) δ × ShowsAll (doing_in c b (try_all d) δ g) × (Each (HasLine (doing_in c b d γ g) c) d.clerk.waiting → Each (HasLine (doing_in c b (try_all d) δ g) c) (try_all d).clerk.waiting))
