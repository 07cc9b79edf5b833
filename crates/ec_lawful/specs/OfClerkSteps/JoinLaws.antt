-- What is proved of a clerk that starts, greets, takes a session and leaves it, as contracts name it: all facts stand behind it.
use Rattle.std.specs.Prelude.{◌≡◌, ◌==◌, ◌<◌, ◌⊎◌, ◌+◌, ℕ, T, true, false, not, ◌&&◌, List, [], ◌∷◌, ◌++◌, Contains, None, Some, is_some, ⊤}
use Rattle.ec_base.specs.declared.ids.Age.{Age}
use Rattle.ec_plain.specs.declared.call.Call.{Call}
use Rattle.ec_history.specs.History.{Each}
use Rattle.ec_history.specs.Placing.{MayFollow, begun, watch}
use Rattle.ec_history.specs.declared.shown.Shown.TheVariants.{Told, Waits}
use Rattle.ec_sessions.specs.declared.window.Window.{Window}
use Rattle.ec_wire.specs.declared.msg.Msg.{Msg}
use Rattle.ec_wire.specs.declared.msg.Msg.TheVariants.{Hello, Ended, Opened, Grant, Recall, Kept, Ids, NoRoom, Restarted}
use Rattle.ec_base.specs.Tables.{keys}
use Rattle.ec_log.specs.Log.{lost}
use Rattle.ec_protocol.specs.Clerk.{Doing, doing, has_session, hello, is_session, new_clerk, same_age, take_ended, take_opened, taken}
use Rattle.ec_protocol.specs.declared.clerk.Clerk.{Clerk}
use Rattle.ec_coherence.specs.System.{System, Ghost, at_session, if_in, with_start}
use Rattle.ec_coherence.specs.Clerks.{take_session}
use Rattle.ec_coherence.specs.Sessions as sessions
use Rattle.ec_coherence.specs.Tokens.{Fits, side, view}
use Rattle.ec_coherence.specs.Log as log
use Rattle.ec_coherence.specs.Invariant.{Invariant}
use Rattle.ec_coherence.specs.Steps.{doing_in}
use Rattle.ec_coherence.specs.ChangeLaws.{Calls, with_clerk}
use Rattle.ec_coherence.specs.CommitLaws.{AllAgree}
use Rattle.ec_coherence.specs.Starts.{StartsAgree}
use Rattle.ec_coherence.specs.Watches.{FirstsAgree, WatchAgrees}
use Rattle.ec_coherence.specs.StandLaws.{AreSent, ClerkStands, SessionGoesOn, IsUnderWay, lined}
use Rattle.ec_lawful.specs.OfClerkSteps.Counts.{CountsAgree}
use Rattle.ec_lawful.specs.OfClerkSteps.Cuts.{CutsAgree}

-- Starts.

-- the next start of a clerk, which greets, with these calls under way
abbrev pub started : System → ℕ → Calls → System
started g c calls =
    let b = g.boots c + 1 in
    record g {
      clerks = with_start c b (new_clerk c b) g.clerks;
      running = at_session c (Some b) g.running;
      boots = at_session c b g.boots;
      calls = calls;
      pool = g.pool ++ (c, Hello c (record { boot = b; round = 0 })) ∷ [];
    }

-- Of a start that no line shows yet all facts stand, but that the lines show it running.
pub record IsFresh (g h : System) (c : ℕ) : Type 0 where
  pub invariant : Invariant h
  pub others : (d : ℕ) → (d == c) ≡ false → WatchAgrees h d (watch d h.ghost.shown)
  -- its first line will begin it
  pub begins : WatchAgrees h c (begun (watch c h.ghost.shown))
  pub idle : (watch c h.ghost.shown).running ≡ false
  pub untold : (watch c h.ghost.shown).untold ≡ None
  pub firsts : FirstsAgree h.ghost
  pub starts : StartsAgree h
  pub counts : CountsAgree h
  pub cuts : CutsAgree g → CutsAgree h

-- a clerk that doesn't run starts
abbrev pub FreshStartsStand : Type 0
FreshStartsStand = (g : System) → AllAgree g → CountsAgree g → (c : ℕ) → c < 16 → g.running c ≡ None → (calls : Calls) → IsFresh g (started g c calls) c

-- and its first line shows that its call waits
abbrev pub StartsStand : Type 0
StartsStand = (g : System) → AllAgree g → CountsAgree g → (c : ℕ) → c < 16 → g.running c ≡ None → (calls : Calls) (l : ℕ) (cl : Call) → MayFollow g.ghost.shown (Waits l c cl)
    → AllAgree (lined (started g c calls) (Waits l c cl)) × CountsAgree (lined (started g c calls) (Waits l c cl)) × (CutsAgree g → CutsAgree (lined (started g c calls) (Waits l c cl)))

-- Greetings.

-- A clerk greets, in a session or not.
abbrev pub HellosStand : Type 0
HellosStand = (g : System) (c b : ℕ) (d : Doing) (γ : Ghost) → ClerkStands g c b d γ → ClerkStands g c b (hello d) γ × (CutsAgree (doing_in c b d γ g) → CutsAgree (doing_in c b (hello d) γ g))

-- A clerk without a session changes in what no fact reads of it (waiting calls, pushes, what it wanted and asked), with messages of which the facts hold.
abbrev pub OutsideStands : Type 0
OutsideStands = (g : System) → AllAgree g → (c b : ℕ) (k now : Clerk) → g.clerks c b ≡ Some k → k.session ≡ None → SessionGoesOn k now → side now ≡ side k → now.ids ≡ k.ids → now.log ≡ k.log → now.asking ≡ k.asking
    → (calls : Calls) (ms : List (ℕ × Msg)) → AreSent g ms → Each (λ m. Fits (view g) m.1) ms → Each (λ m. log.Fits g m.1) ms → AllAgree (with_clerk g c b now calls ms) × (CutsAgree g → CutsAgree (with_clerk g c b now calls ms))

-- Sessions.

-- what calls under way read of a clerk
pub record SameCalls (k now : Clerk) : Type 0 where
  pub waiting : now.waiting ≡ k.waiting
  pub calls : now.calls ≡ k.calls
  pub next : now.log.next ≡ k.log.next

-- when the step began the clerk was in no session
abbrev pub WasOutside : System → ℕ → ℕ → Type 0
WasOutside g c b = (t : ℕ) → if_in t (g.clerks c b) ≡ None

-- a clerk without a session takes one that was opened with its own age, also where it has ended since; it claims nothing
abbrev pub OpenedStands : Type 0
OpenedStands = (g : System) (c b : ℕ) (d : Doing) (γ : Ghost) → ClerkStands g c b d γ → d.clerk.session ≡ None → WasOutside g c b
    → (age : Age) (s e : ℕ) → sessions.Fits (doing_in c b d γ g) c (Opened age s e) → Fits (view (doing_in c b d γ g)) (Opened age s e) → age ≡ d.clerk.age
    → IsUnderWay g c b s (take_opened age s e d) (take_session s γ) × (CutsAgree (doing_in c b d γ g) → CutsAgree (doing_in c b (take_opened age s e d) (take_session s γ) g))

-- a line tells what is lost
abbrev pub tell_loss : ℕ → List ℕ → Ghost → Ghost
tell_loss c ns γ = record γ { shown = γ.shown ++ Told c ns ∷ [] }

-- a clerk whose session has ended learns it: it owes what it lost, a line tells it, and it greets at the next round
abbrev pub EndedStands : Type 0
EndedStands = (g : System) (c b s : ℕ) (d : Doing) (γ : Ghost) → IsUnderWay g c b s d γ → CutsAgree (doing_in c b d γ g) → (w : Window) → sessions.Fits (doing_in c b d γ g) c (Ended s w.low w.mask)
    → let e = take_ended w d in
    let δ = tell_loss c (keys (lost w d.clerk.log)) γ in
    T (is_some e.spent) ⊎ (ClerkStands g c b e δ × CutsAgree (doing_in c b e δ g) × (e.clerk.session ≡ None))

-- Whole messages.

-- the step under way stands, and its clerk is in no session or in that of the step
pub record IsGoing (g : System) (c b : ℕ) (k : Clerk) (d : Doing) (γ : Ghost) : Type 0 where
  pub stands : ClerkStands g c b d γ
  pub cuts : CutsAgree (doing_in c b d γ g)
  pub place : (d.clerk.session ≡ None) ⊎ ((s : ℕ) × IsUnderWay g c b s d γ)
  pub calls : SameCalls k d.clerk
  pub same_calls : (doing_in c b d γ g).calls ≡ g.calls

-- what such a message makes of the ghosts
abbrev pub ghosts_joined : ℕ → Msg → Doing → Ghost → Ghost
ghosts_joined c (Opened age s e) d γ = elim (not (has_session d.clerk) && same_age age d.clerk.age) [ true ↦ take_session s γ | false ↦ γ ]
ghosts_joined c (Ended s low mask) d γ = elim (is_session s d.clerk.session) [ true ↦ tell_loss c (keys (lost (record { low = low; mask = mask }) d.clerk.log)) γ | false ↦ γ ]
ghosts_joined c _ d γ = γ

abbrev pub GoesThrough : System → ℕ → ℕ → Clerk → Msg → Type 0
GoesThrough g c b k m = T (is_some (taken m (doing k)).spent) ⊎ IsGoing g c b k (taken m (doing k)) (ghosts_joined c m (doing k) g.ghost)

-- so a step begins
abbrev pub GoesAtFirst : Type 0
GoesAtFirst = (g : System) → AllAgree g → CutsAgree g → (c b : ℕ) (k : Clerk) → g.running c ≡ Some b → g.clerks c b ≡ Some k → IsGoing g c b k (doing k) g.ghost

-- a clerk without a session takes any message that was sent
abbrev pub TakesOutside : Type 0
TakesOutside = (g : System) → AllAgree g → CutsAgree g → (c b : ℕ) (k : Clerk) → g.running c ≡ Some b → g.clerks c b ≡ Some k → k.session ≡ None → (m : Msg) → Contains g.pool (c, m) → GoesThrough g c b k m

-- a message that changes a clerk in the session s
abbrev pub IsOfSession : ℕ → Msg → Type 0
IsOfSession s (Grant t e x n h i) = t ≡ s
IsOfSession s (Recall t e x n h) = t ≡ s
IsOfSession s (Kept t e b) = t ≡ s
IsOfSession s (Ids t e got n first) = t ≡ s
IsOfSession s (NoRoom t e ask live reserved) = t ≡ t
IsOfSession s (Restarted t e) = t ≡ s
IsOfSession s _ = ⊥

-- a message changes nothing in the session s: it's of another one, or refuses ids that weren't asked for
abbrev pub IsBeside : ℕ → Clerk → Msg → Type 0
IsBeside s k (Grant t e x n h i) = ¬ (t ≡ s)
IsBeside s k (Recall t e x n h) = ¬ (t ≡ s)
IsBeside s k (Kept t e b) = ¬ (t ≡ s)
IsBeside s k (Ids t e got n first) = ¬ (t ≡ s)
IsBeside s k (NoRoom t e ask live reserved) = is_session ask k.asking ≡ false
IsBeside s k (Restarted t e) = ¬ (t ≡ s)
IsBeside s k _ = ⊤

-- a clerk in a session takes any message but one of those
abbrev pub TakesOthers : Type 0
TakesOthers = (g : System) → AllAgree g → CutsAgree g → (c b s : ℕ) (k : Clerk) → g.running c ≡ Some b → g.clerks c b ≡ Some k → k.session ≡ Some s → (m : Msg) → Contains g.pool (c, m) → (IsOfSession s m → ⊥) → GoesThrough g c b k m
