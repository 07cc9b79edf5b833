-- The call lines so far, by their numbers, and where the calls began.
use Rattle.std.specs.Prelude.{◌≡◌, ◌==◌, ◌≤◌, ◌<◌, ◌+◌, ℕ, Bool, true, false, if◌then◌else◌, List, [], ◌∷◌, ◌++◌, length, slice_get, Option, Some, None, MatchBool, MatchOption, ⊤}
use Rattle.ec_base.specs.Limits.{clerk_count}
use Rattle.ec_plain.specs.declared.call.Call.{Call}
use Rattle.ec_history.specs.Placing.{Agrees, Unanswered, EachLine, begun, watch, unwatched, last_place, before_line, is_numbered}
use Rattle.ec_history.specs.declared.shown.Shown.{Shown}
use Rattle.ec_history.specs.declared.shown.Shown.TheVariants.{Waits, Answered}
use Rattle.ec_lines.specs.declared.index.CallLines.{CallLines}

-- the start of a clerk that runs behind these lines, or comes next
abbrev pub start_of : ℕ → List Shown → ℕ
start_of c past = (begun (watch c past)).starts

-- The place, from 1, of the last line above the call's first one that gives an entry of this start, or 0.
abbrev pub begun_in : ℕ → List Shown → Shown → ℕ
begun_in b past (Answered l c cl a op) = last_place c b unwatched 1 0 (before_line l past)
begun_in b past _ = 0

-- The same of the start to which an answer belongs.
abbrev pub begins : List Shown → Shown → ℕ
begins past (Answered l c cl a op) = begun_in (start_of c past) past (Answered l c cl a op)
begins past _ = 0

-- Each line's `begins` behind those above it.
abbrev pub AreBegins : List Shown → List Shown → List ℕ → Type 0
AreBegins past [] bs = bs ≡ []
AreBegins past (s ∷ ss) [] = ⊥
AreBegins past (s ∷ ss) (b ∷ bs) = (b ≡ begins past s) × AreBegins (past ++ s ∷ []) ss bs

-- What the code keeps of the lines so far. No public clause cites what follows.

-- the last line that gives an entry of the clerk's running or next start
abbrev pub last_entry : ℕ → List Shown → ℕ
last_entry c past = last_place c (start_of c past) unwatched 1 0 past

pub record AreLast (ls : List ℕ) (past : List Shown) : Type 0 where
  pub count : length ls ≡ clerk_count
  pub each : (c : ℕ) → c < clerk_count → slice_get ls c ≡ Some (last_entry c past)

-- the same behind one more line, by the starts before and after it
abbrev pub last_after : ℕ → ℕ → Bool → ℕ → ℕ → ℕ
last_after before after gives above last = if before == after then (if gives then above + 1 else last) else 0

-- no line has this number
abbrev pub NumberIsNew : ℕ → List Shown → Type 0
NumberIsNew n past = EachLine (λ s. is_numbered n s ≡ false) past

-- what the lines show of the call of this number
pub record IsCalled (past : List Shown) (n : ℕ) (f : CallLines) : Type 0 where
  pub clerk : ℕ
  pub call : Call
  pub line : Shown
  pub at : slice_get past f.first ≡ Some line
  pub own : is_numbered n line ≡ true
  pub agree : EachLine (Agrees n clerk call) past
  pub answered : MatchBool f.is_answered (¬ (EachLine (Unanswered n) past)) (EachLine (Unanswered n) past)
  pub later : f.boot ≤ start_of clerk past
  pub begun : (b : ℕ) → f.boot ≤ b → last_place clerk b unwatched 1 0 (before_line n past) ≡ (if b == f.boot then f.begun else 0)

-- this is known of the call of this number
abbrev pub CallIsKnown : List Shown → ℕ → Option CallLines → Type 0
CallIsKnown past n known = MatchOption known (NumberIsNew n past) (IsCalled past n)

abbrev pub IsCallIndex : (ℕ → Option CallLines) → List Shown → Type 0
IsCallIndex g past = (n : ℕ) → CallIsKnown past n (g n)

-- what the index tells of the call of a line
abbrev pub known_of : (ℕ → Option CallLines) → Shown → Option CallLines
known_of g (Waits l c cl) = g l
known_of g (Answered l c cl a op) = g l
known_of g _ = None

-- this is known of the call of a line
abbrev pub IsKnownOf : List Shown → Shown → Option CallLines → Type 0
IsKnownOf past (Waits l c cl) known = CallIsKnown past l known
IsKnownOf past (Answered l c cl a op) known = CallIsKnown past l known
IsKnownOf past _ known = ⊤

-- what is kept of a call behind one more of its lines
abbrev pub called_next : Option CallLines → ℕ → ℕ → ℕ → Bool → CallLines
called_next (Some f) at boot last answers = record f { is_answered = if answers then true else f.is_answered }
called_next None at boot last answers = record { first = at; boot = boot; begun = last; is_answered = answers }

-- one more line of a number, by its clerk
abbrev pub Renews : (ℕ → Option CallLines) → (ℕ → Option CallLines) → List Shown → ℕ → ℕ → Bool → Type 0
Renews g h past n c answers = (q : ℕ) → h q ≡ (if n == q then Some (called_next (g n) (length past) (start_of c past) (last_entry c past) answers) else g q)
