-- The calls under way: which lines stand for them, and what was issued before they began.
use Rattle.std.specs.Prelude.{◌≡◌, ◌≤◌, ◌<◌, ◌==◌, ◌+◌, ℕ, T, Bool, true, false, not, ◌&&◌, List, [], ◌∷◌, Option, None, Some, ⊤}
use Rattle.std.specs.List.{list_any}
use Rattle.ec_plain.specs.BoundedCalls.{is_bounded}
use Rattle.ec_plain.specs.declared.call.Call.{Call}
use Rattle.ec_history.specs.History.{History, Each, same_start, is_entry_of}
use Rattle.ec_history.specs.Placing.{Agrees, EachLine, Unanswered, is_numbered, watch}
use Rattle.ec_history.specs.declared.entry.Entry.{Entry}
use Rattle.ec_history.specs.declared.entry.Entry.TheVariants as entry
use Rattle.ec_log.specs.LogOrder.{is_from}
use Rattle.ec_protocol.specs.declared.clerk.Clerk.{Clerk}
use Rattle.ec_protocol.specs.declared.clerk.Waiting.{Waiting}
use Rattle.ec_coherence.specs.System.{System}
use Rattle.ec_coherence.specs.Events.{shown_boot}
use Rattle.ec_coherence.specs.Steps.{call_of}
use Rattle.ec_coherence.specs.Comes.{begun_at}

-- Numbers and lines.

-- no two of these have one number
abbrev pub HaveDistinctNumbers : List Waiting → Type 0
HaveDistinctNumbers [] = ⊤
HaveDistinctNumbers (w ∷ ws) = Each (λ v. (v.no == w.no) ≡ false) ws × HaveDistinctNumbers ws

-- one of these has this number
abbrev pub has_number : ℕ → List Waiting → Bool
has_number n ws = list_any (λ w. w.no == n) ws

-- a line of this number was shown
abbrev pub is_shown : System → ℕ → Bool
is_shown g l = list_any (is_numbered l) g.ghost.shown

-- What was issued before a call.

-- an operation of the start whose entry stands up to this place has a number up to this one
abbrev pub IsBefore : ℕ → ℕ → ℕ → ℕ → ℕ × Entry → Type 0
IsBefore c b place n (p, entry.Call d e l begun cl a (Some m)) = T (same_start c b d e) → p ≤ place → m ≤ n
IsBefore c b place n _ = ⊤

-- The call of this line began when the operations up to its number had been issued: the last of them, where it has no line yet; else those that the
-- place says from which its entry is to count.
pub record Began (g : System) (c b : ℕ) (k : Clerk) (w : Waiting) (l : ℕ) : Type 0 where
  pub now : is_shown g l ≡ false → w.begun + 1 ≡ k.log.next
  pub earlier : is_shown g l ≡ true → Each (IsBefore c (shown_boot g c b) (begun_at g c b l) w.begun) g.ghost.history

-- What a start was told to be lost.

-- a loss of the start names operations below this number
abbrev pub LosesBelow : ℕ → ℕ → ℕ → ℕ × Entry → Type 0
LosesBelow c b n (p, entry.Loss d e ns) = T (same_start c b d e) → Each (λ m. m < n) ns
LosesBelow c b n _ = ⊤

-- the entries before the last one of the start
abbrev pub before_last : ℕ → ℕ → History → History
before_last c b [] = []
before_last c b (e ∷ h) = elim (is_entry_of c b e.1 && not (list_any (λ f. is_entry_of c b f.1) h)) [ true ↦ [] | false ↦ e ∷ before_last c b h ]

-- the entries that the start knows: a loss that it wasn't told is its last one
abbrev pub told_to : ℕ → ℕ → Option (List ℕ) → History → History
told_to c b None h = h
told_to c b (Some ns) h = before_last c b h

-- The facts.

-- of a running start
pub record StartCalls (g : System) (c b : ℕ) (k : Clerk) : Type 0 where
  -- each waiting call has its line and its text
  pub lined : Each (λ w. (l : ℕ) × (call_of c w.no g.calls ≡ Some (l, w.call)) × Began g c b k w l) k.waiting
  -- their numbers differ, and are at most that of the last call
  pub apart : HaveDistinctNumbers k.waiting
  pub numbers : Each (λ w. w.no ≤ k.calls) k.waiting
  -- what isn't known durable was issued in this session, and what it was told to be lost before it
  pub own : T (is_from k.log.first k.log.undurable)
  pub begun : k.log.first ≤ k.log.next
  pub lost : Each (LosesBelow c (shown_boot g c b) k.log.first) (told_to c (shown_boot g c b) (watch c g.ghost.shown).untold g.ghost.history)

-- of a call under way: the running start waits for it, it's within its bounds, its lines are its own, and none answers it
pub record IsOpenCall (g : System) (c n l : ℕ) (cl : Call) : Type 0 where
  pub boot : ℕ
  pub clerk : Clerk
  pub running : g.running c ≡ Some boot
  pub stands : g.clerks c boot ≡ Some clerk
  pub waits : T (has_number n clerk.waiting)
  pub bounded : T (is_bounded cl)
  pub own : EachLine (Agrees l c cl) g.ghost.shown
  pub unanswered : EachLine (Unanswered l) g.ghost.shown

pub record CallsAgree (g : System) : Type 0 where
  pub starts : (c b : ℕ) (k : Clerk) → g.running c ≡ Some b → g.clerks c b ≡ Some k → StartCalls g c b k
  pub calls : (c n l : ℕ) (cl : Call) → call_of c n g.calls ≡ Some (l, cl) → IsOpenCall g c n l cl
  -- calls under way have lines of their own
  pub lines : (c d n m l : ℕ) (cl dl : Call) → call_of c n g.calls ≡ Some (l, cl) → call_of d m g.calls ≡ Some (l, dl) → (c ≡ d) × (n ≡ m)
