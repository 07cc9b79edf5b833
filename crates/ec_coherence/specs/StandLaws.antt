-- What is proved of a change of one clerk, and of the stops of nodes, as contracts name it: all facts stand behind it.
use Rattle.std.specs.Prelude.{◌≡◌, ◌==◌, ◌⊎◌, ℕ, T, is_some, map, List, [], ◌∷◌, ◌++◌, true, false, None, Some}
use Rattle.ec_base.specs.Tables.{at, without}
use Rattle.ec_base.specs.declared.ids.Age.{Age}
use Rattle.ec_base.specs.declared.ids.Hold.{Hold}
use Rattle.ec_history.specs.History.{Each}
use Rattle.ec_history.specs.declared.shown.Shown.{Shown}
use Rattle.ec_history.specs.declared.shown.Shown.TheVariants.{Crashed, Nothing, Started, Stopped}
use Rattle.ec_sessions.specs.Windows.{has}
use Rattle.ec_wire.specs.Messages.{is_held_mode, is_sound}
use Rattle.ec_wire.specs.declared.msg.Msg.{Msg}
use Rattle.ec_wire.specs.declared.msg.Msg.TheVariants.{Flush}
use Rattle.ec_log.specs.Log.{after_pick, batch, batches_are_spent, kept, pick}
use Rattle.ec_log.specs.declared.state.Asked.{Asked}
use Rattle.ec_log.specs.declared.state.Pick.TheVariants.{Batch}
use Rattle.ec_protocol.specs.Clerk.{Doing, ask_for, ask_room, doing, epoch, resend_want, want}
use Rattle.ec_protocol.specs.declared.clerk.Clerk.{Clerk}
use Rattle.ec_protocol.specs.declared.clerk.Out.TheVariants.{Send}
use Rattle.ec_protocol.specs.Server.{start}
use Rattle.ec_protocol.specs.declared.server.Server.{Server}
use Rattle.ec_coherence.specs.System.{System, Ghost, if_in}
use Rattle.ec_coherence.specs.Sessions as sessions
use Rattle.ec_coherence.specs.Tokens.{Fits, Names, TokensAgree, eff, side, view}
use Rattle.ec_coherence.specs.Log as log
use Rattle.ec_coherence.specs.Log.{OfOpen}
use Rattle.ec_coherence.specs.Steps.{UnderClerk, doing_in}
use Rattle.ec_coherence.specs.ChangeLaws.{Calls, IsInIt, LogsAndImages, with_clerk}
use Rattle.ec_coherence.specs.CommitLaws.{AllAgree, StepStands}
use Rattle.ec_coherence.specs.Starts.{Greets, StartsAgree}
use Rattle.ec_coherence.specs.Watches.{FirstsAgree, WatchesAgree}

-- The start goes on in its session: what the lines show of it stays.
pub record SessionGoesOn (k now : Clerk) : Type 0 where
  pub id : now.id ≡ k.id
  pub age : now.age ≡ k.age
  pub session : now.session ≡ k.session
  pub owed : now.owed ≡ k.owed
  pub next : now.log.next ≡ k.log.next

-- what is sent is sound, and speaks of sessions of its clerk
abbrev pub AreSent : System → List (ℕ × Msg) → Type 0
AreSent g ms = Each (λ m. sessions.Fits g m.0 m.1 × T (is_sound m.1) × Greets g m.0 m.1) ms

-- where the facts on tokens, logs and images hold behind a change, all do
abbrev pub ChangesStand : Type 0
ChangesStand = (g : System) → AllAgree g → (c s : ℕ) (age : Age) (k now : Clerk) → IsInIt g c s age k → SessionGoesOn k now → (calls : Calls) (ms : List (ℕ × Msg)) → AreSent g ms
    → TokensAgree (view (with_clerk g c age.boot now calls ms)) → LogsAndImages (with_clerk g c age.boot now calls ms) → AllAgree (with_clerk g c age.boot now calls ms)

-- Of what no family reads of a clerk (what it wanted, pushes, asked, and its waiting calls) any change may be made, with messages of which the facts hold.
abbrev pub RestsStand : Type 0
RestsStand = (g : System) → AllAgree g → (c s : ℕ) (age : Age) (k now : Clerk) → IsInIt g c s age k → SessionGoesOn k now → side now ≡ side k → now.ids ≡ k.ids → now.log ≡ k.log
    → (calls : Calls) (ms : List (ℕ × Msg)) → AreSent g ms → Each (λ m. Fits (view g) m.1) ms → Each (λ m. log.Fits (with_clerk g c age.boot now calls ms) m.1) ms
    → AllAgree (with_clerk g c age.boot now calls ms)

-- A clerk's step under way.

-- it stands with all facts
abbrev pub ClerkStands : System → ℕ → ℕ → Doing → Ghost → Type 0
ClerkStands g c b d γ = UnderClerk g c b d γ × WatchesAgree (doing_in c b d γ g) × FirstsAgree γ × StartsAgree (doing_in c b d γ g)

-- the clerk is this one now, and sends these
abbrev pub sending : Clerk → List Msg → Doing → Doing
sending now ms d = record d { clerk = now; outs = d.outs ++ map Send ms }

-- so it begins
abbrev pub BeginsStand : Type 0
BeginsStand = (g : System) → AllAgree g → (c b : ℕ) (k : Clerk) → g.running c ≡ Some b → g.clerks c b ≡ Some k → ClerkStands g c b (doing k) g.ghost

-- and goes on in its session, where tokens, logs and images agree
abbrev pub GoesOnStand : Type 0
GoesOnStand = (g : System) (c b s : ℕ) (d : Doing) (γ : Ghost) → ClerkStands g c b d γ → (age : Age) → γ.owner s ≡ Some (c, age) → age.boot ≡ b → d.clerk.session ≡ Some s
    → (now : Clerk) → SessionGoesOn d.clerk now → (ms : List Msg) → AreSent (doing_in c b d γ g) (map (λ m. (c, m)) ms)
    → TokensAgree (view (doing_in c b (sending now ms d) γ g)) → LogsAndImages (doing_in c b (sending now ms d) γ g) → ClerkStands g c b (sending now ms d) γ

-- Whole functions of a clerk that is in a session.

-- The step is under way in this session, and when it began the clerk was in no other one.
pub record IsUnderWay (g : System) (c b s : ℕ) (d : Doing) (γ : Ghost) : Type 0 where
  pub stands : ClerkStands g c b d γ
  pub age : Age
  pub owns : γ.owner s ≡ Some (c, age)
  pub boot : age.boot ≡ b
  pub session : d.clerk.session ≡ Some s
  pub before : (t : ℕ) → (t == s) ≡ false → if_in t (g.clerks c b) ≡ None

-- it wants an object, once or again; the object's id was given out, and is none that wasn't taken
abbrev pub WantsStand : Type 0
WantsStand = (g : System) (c b s : ℕ) (d : Doing) (γ : Ghost) → IsUnderWay g c b s d γ → (x : ℕ) (h : Hold) → T (is_held_mode h) → Names (view (doing_in c b d γ g)) x
    → ClerkStands g c b (want x h d) γ × ((sent : List (ℕ × Hold)) → ClerkStands g c b (resend_want x h sent d) γ)

-- it asks for ids, where none is left
abbrev pub RoomsStand : Type 0
RoomsStand = (g : System) (c b s : ℕ) (d : Doing) (γ : Ghost) → IsUnderWay g c b s d γ → d.clerk.ids ≡ [] → ClerkStands g c b (ask_room d) γ

-- it asks for a closure to be durable, where the Flush of a new batch is within the ranges of messages
abbrev pub AsksStand : Type 0
AsksStand = (g : System) (c b s : ℕ) (d : Doing) (γ : Ghost) → IsUnderWay g c b s d γ → (a : Asked)
    → ((n : ℕ) (ns : List ℕ) → pick a d.clerk.log ≡ Batch n ns → T (is_sound (Flush s (epoch d) n (batch n (after_pick (Batch n ns) d.clerk.log))))) → ClerkStands g c b (ask_for a d) γ

-- Batches.

-- a batch that the server's window has is passed
abbrev pub PassesStand : Type 0
PassesStand = (g : System) → AllAgree g → (c s : ℕ) (age : Age) (k : Clerk) → IsInIt g c s age k → (calls : Calls) (b : ℕ) → OfOpen g s (λ sl. T (has sl.window b))
    → AllAgree (with_clerk g c age.boot (record k { log = kept b k.log }) calls [])

-- a batch under way is sent again, in the clerk's epoch
abbrev pub SendsAgainStand : Type 0
SendsAgainStand = (g : System) → AllAgree g → (c s : ℕ) (age : Age) (k : Clerk) → IsInIt g c s age k → (calls : Calls) (b : ℕ) → T (is_some (at b k.log.batches))
    → T (is_sound (Flush s k.epoch b (batch b k.log))) → AllAgree (with_clerk g c age.boot k calls ((c, Flush s k.epoch b (batch b k.log)) ∷ []))

-- a new batch is picked and sent
abbrev pub PicksStand : Type 0
PicksStand = (g : System) → AllAgree g → (c s : ℕ) (age : Age) (k : Clerk) → IsInIt g c s age k → (calls : Calls) (a : Asked) (b : ℕ) (ns : List ℕ)
    → pick a k.log ≡ Batch b ns → batches_are_spent k.log ≡ false → T (is_sound (Flush s k.epoch b (batch b (after_pick (Batch b ns) k.log))))
    → AllAgree (with_clerk g c age.boot (record k { log = after_pick (Batch b ns) k.log }) calls ((c, Flush s k.epoch b (batch b (after_pick (Batch b ns) k.log))) ∷ []))

-- Stops and starts of nodes.

-- a start crashes: its waiting calls are gone, and a line says so
abbrev pub crashed : System → ℕ → System
crashed g c =
    record g {
      running = λ f. elim (f == c) [ true ↦ None | false ↦ g.running f ];
      calls = without c g.calls;
      ghost = record (g.ghost) { shown = g.ghost.shown ++ Crashed c ∷ [] };
    }

abbrev pub CrashesStand : Type 0
CrashesStand = (g : System) → AllAgree g → (c : ℕ) → AllAgree (crashed g c)

-- the server stops, and a line says so: its tables are gone, and the tokens stay as they were
abbrev pub stopped : System → System
stopped g = record g { server = None; ghost = record (g.ghost) { old = λ s x. eff (view g) s x; shown = g.ghost.shown ++ Stopped ∷ [] } }

abbrev pub StopsStand : Type 0
StopsStand = (g : System) → AllAgree g → (v : Server) → g.server ≡ Some v → AllAgree (stopped g)

-- a stopped server starts, where no record is in doubt
abbrev pub StartsStand : Type 0
StartsStand = (g : System) → AllAgree g → g.server ≡ None → g.unshown ≡ None → T (is_some (start g.durable).spent) ⊎ ((γ : Ghost) × StepStands g (start g.durable) γ)

-- a line is shown that says nothing of clerks
abbrev pub lined : System → Shown → System
lined g l = record g { ghost = record (g.ghost) { shown = g.ghost.shown ++ l ∷ [] } }

abbrev pub LinesStand : Type 0
LinesStand = (g : System) → AllAgree g → AllAgree (lined g Started) × AllAgree (lined g Stopped) × AllAgree (lined g Nothing)
