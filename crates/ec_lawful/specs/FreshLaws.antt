-- What is proved of the ids of new objects, as contracts name it.
use Rattle.std.specs.Prelude.{◌≡◌, ◌≤◌, ◌⊎◌, ◌+◌, ◌++◌, ◌∷◌, ℕ, T, true, List, [], Option, None, Some, is_some, length}
use Rattle.ec_base.specs.Tables.{put}
use Rattle.ec_volume.specs.declared.image.Image.TheVariants.{Gone}
use Rattle.ec_plain.specs.declared.call.Call.{Call}
use Rattle.ec_history.specs.declared.entry.Answer.{Answer}
use Rattle.ec_history.specs.declared.shown.Shown.{Shown}
use Rattle.ec_history.specs.declared.shown.Shown.TheVariants.{Answered}
use Rattle.ec_volume.specs.Update.{member}
use Rattle.ec_protocol.specs.declared.clerk.Clerk.{Clerk}
use Rattle.ec_cache.specs.OfReport.Report.{Owed}
use Rattle.ec_wire.specs.declared.msg.Msg.{Msg}
use Rattle.ec_protocol.specs.Clerk.{Doing, taken, verdict}
use Rattle.ec_protocol.specs.declared.clerk.Waiting.{Waiting}
use Rattle.ec_coherence.specs.System.{System, Ghost, with_start}
use Rattle.ec_coherence.specs.Steps.{doing_in}
use Rattle.ec_coherence.specs.Tokens.{Fits, is_untaken, side, view}
use Rattle.ec_coherence.specs.CommitLaws.{AllAgree}
use Rattle.ec_lawful.specs.OfClerkSteps.DoingLaws.{IsIds, IsInHand}
use Rattle.ec_lawful.specs.OfClerkSteps.Names.{NamesAgree}
use Rattle.ec_coherence.specs.Answers.{Gives}
use Rattle.ec_lawful.specs.OfClerkSteps.Answering.{Suits, answered_clerk}
use Rattle.ec_lawful.specs.OfClerkSteps.Trying.{AnswersWith, IsTrying}
use Rattle.ec_lawful.specs.OfClerkSteps.Zeros.{ZerosAgree}
use Rattle.ec_lawful.specs.Creates.{creates}
use Rattle.ec_lawful.specs.FreshIds.{AreQuiet}
use Rattle.ec_lawful.specs.Fresh.{FreshAgrees, Hidden, Stored, Taken}

-- nobody is there, and nothing was shown
abbrev pub FreshBegins : Type 0
FreshBegins = (g : System) → g.clerks ≡ (λ c b. None) → g.ghost.shown ≡ [] → g.ghost.history ≡ [] → FreshAgrees g

-- Behind a step with these lines, of which none is an answer, the run is the same.
pub record SameLines (g h : System) (ls : List Shown) : Type 0 where
  pub quiet : AreQuiet ls
  pub origin : h.origin ≡ g.origin
  pub first_boot : h.first_boot ≡ g.first_boot
  pub next : g.durable.next_id ≤ h.durable.next_id
  pub shown : h.ghost.shown ≡ g.ghost.shown ++ ls
  pub fresh : h.ghost.fresh ≡ g.ghost.fresh

-- The start's clerk was in its session, with as many ids taken, and had those that it has; or it has none in store.
abbrev pub HasOld : System → ℕ → ℕ → Clerk → Type 0
HasOld g c b now =
    ((k : Clerk) × (g.clerks c b ≡ Some k) × ((now.session ≡ k.session) × (now.got ≡ k.got)) × ((x : ℕ) → T (member x now.ids) → T (member x k.ids)))
    ⊎ ((s : ℕ) → now.session ≡ Some s → (now.ids ≡ []) × ((x : ℕ) → T (is_untaken (g.ghost.grants s) (g.ghost.first s) (Some (side now)) x) → ⊥))

-- Behind a step with these lines, none of which is an answer, starts have in store what they had, but for ids that were given out since.
pub record GoesQuiet (g h : System) (ls : List Shown) : Type 0 where
  pub quiet : AreQuiet ls
  pub origin : h.origin ≡ g.origin
  pub first_boot : h.first_boot ≡ g.first_boot
  pub next : g.durable.next_id ≤ h.durable.next_id
  pub shown : h.ghost.shown ≡ g.ghost.shown ++ ls
  pub fresh : h.ghost.fresh ≡ g.ghost.fresh
  pub taken : (c b x : ℕ) → Taken h c b x → Stored g c b x
  pub hidden : (c b x : ℕ) → Hidden h c b x → Hidden g c b x ⊎ (g.durable.next_id ≤ x)

-- ids stay fresh behind it
abbrev pub QuietStepsStayFresh : Type 0
QuietStepsStayFresh = (g h : System) (ls : List Shown) → AllAgree g → AllAgree h → NamesAgree g → GoesQuiet g h ls → FreshAgrees g → FreshAgrees h

-- Behind an answer of a start starts have in store what they had, and this one doesn't have the id any more, if an object was made with it.
pub record GoesAnswered (g h : System) (c b l : ℕ) (cl : Call) (a : Answer) (op : Option ℕ) (x : ℕ) : Type 0 where
  pub origin : h.origin ≡ g.origin
  pub first_boot : h.first_boot ≡ g.first_boot
  pub next : h.durable.next_id ≡ g.durable.next_id
  pub shown : h.ghost.shown ≡ g.ghost.shown ++ Answered l c cl a op ∷ []
  pub fresh : h.ghost.fresh ≡ put (length g.ghost.shown + 1) x g.ghost.fresh
  -- the id is one that the running start has taken, or there was none
  pub own : (x ≡ 0) ⊎ ((g.running c ≡ Some b) × Taken g c b x)
  pub gone : g.origin x ≡ Gone
  pub spent : creates cl ≡ true → T (is_some op) → (1 ≤ x) × (Taken h c b x → ⊥)
  pub taken : (d f y : ℕ) → Taken h d f y → Taken g d f y
  pub hidden : (d f y : ℕ) → Hidden h d f y → Hidden g d f y

abbrev pub AnswersStayFresh : Type 0
AnswersStayFresh = (g h : System) (c b l : ℕ) (cl : Call) (a : Answer) (op : Option ℕ) (x : ℕ) → AllAgree g → AllAgree h → NamesAgree g → ZerosAgree g → GoesAnswered g h c b l cl a op x → FreshAgrees g → FreshAgrees h

-- Parts of steps.

-- behind a change of one start that goes on with ids that it has, or has none
abbrev pub StartsStayFresh : Type 0
StartsStayFresh = (g h : System) → AllAgree g → AllAgree h → NamesAgree g → (ls : List Shown) → SameLines g h ls → (c b : ℕ) (now : Clerk) → h.clerks ≡ with_start c b now g.clerks → h.ghost.grants ≡ g.ghost.grants → h.ghost.first ≡ g.ghost.first
    → HasOld g c b now → FreshAgrees g → FreshAgrees h

-- behind a record, in which ids are perhaps given
abbrev pub RecordsStayFresh : Type 0
RecordsStayFresh = (g h : System) → AllAgree g → AllAgree h → NamesAgree g → (ls : List Shown) → SameLines g h ls → h.clerks ≡ g.clerks
    → ((s : ℕ) → ((h.ghost.grants s ≡ g.ghost.grants s) × (h.ghost.first s ≡ g.ghost.first s)) ⊎ (h.ghost.first s ≡ g.durable.next_id)) → FreshAgrees g → FreshAgrees h

-- where a clerk takes ids
abbrev pub TakenIdsStayFresh : Type 0
TakenIdsStayFresh = (g : System) (c b s : ℕ) (d : Doing) (γ : Ghost) → IsInHand g c b s d γ → FreshAgrees (doing_in c b d γ g) → (m : Msg) → IsIds m → Fits (view (doing_in c b d γ g)) m → AllAgree (doing_in c b (taken m d) γ g)
    → FreshAgrees (doing_in c b (taken m d) γ g)

-- behind the answer that a clerk's verdict gives, in a step under way
abbrev pub TriesStayFresh : Type 0
TriesStayFresh = (g : System) (c b : ℕ) (d : Doing) (γ : Ghost) → IsTrying g c b d γ → (ws : List Waiting) (cl : Call) → let left : Clerk = record (d.clerk) { waiting = ws } in
    (a : Answer) (op : Option ℕ) (rest : Owed) → Gives g.durable.max_objects left (verdict cl left) a op rest → Suits (verdict cl left) left → (e : Doing) → e.clerk ≡ answered_clerk (verdict cl left) left → (l : ℕ) (δ : Ghost) → AnswersWith g c b d γ l cl a op δ
    → IsTrying g c b e δ → FreshAgrees (doing_in c b d γ g) → FreshAgrees (doing_in c b e δ g)
