-- What is proved of ids in store behind all steps but answers, as contracts name it.
use Rattle.std.specs.Prelude.{◌≡◌, ◌≤◌, ◌⊎◌, ℕ, T, List, Option, None, Some, not}
use Rattle.ec_base.specs.declared.ids.Age.{Age}
use Rattle.ec_base.specs.declared.ids.Hold.{Hold}
use Rattle.ec_history.specs.declared.shown.Shown.{Shown}
use Rattle.ec_sessions.specs.declared.window.Window.{Window}
use Rattle.ec_durable.specs.declared.state.Durable.{Durable}
use Rattle.ec_wire.specs.declared.msg.Msg.{Msg}
use Rattle.ec_log.specs.declared.state.Asked.{Asked}
use Rattle.ec_protocol.specs.Clerk.{Doing, answer_recalls, ask_for, ask_pushes, ask_room, claim, evict, keep_push, resend_want, send_outstanding, take_ended, take_opened, taken, want}
use Rattle.ec_protocol.specs.Server.{Serving}
use Rattle.ec_protocol.specs.declared.clerk.Clerk.{Clerk}
use Rattle.ec_protocol.specs.declared.server.Server.{Server}
use Rattle.ec_coherence.specs.System.{System, Ghost, with_start}
use Rattle.ec_coherence.specs.Clerks.{take_session}
use Rattle.ec_coherence.specs.Tokens.{Fits, view}
use Rattle.ec_coherence.specs.Steps.{doing_in, serving_in}
use Rattle.ec_coherence.specs.ChangeLaws.{Calls}
use Rattle.ec_coherence.specs.CommitLaws.{AllAgree, StepStands}
use Rattle.ec_coherence.specs.Makes.{Makes}
use Rattle.ec_lawful.specs.OfClerkSteps.DoingLaws.{IsGrant, IsIds, IsInHand, IsKept, IsRecall, IsRestarted}
use Rattle.ec_lawful.specs.OfClerkSteps.Names.{NamesAgree}
use Rattle.ec_lawful.specs.OfClerkSteps.Follows.{GhostsFollow}
use Rattle.ec_lawful.specs.OfClerkSteps.Moves.{GhostsMove, IsStill}
use Rattle.ec_lawful.specs.OfClerkSteps.Frees.{FreesAgree}

-- The server.

-- behind any change of the durable state, the server, messages and ghosts that a record makes; with it names stay, too
abbrev pub StatesKeepFrees : Type 0
StatesKeepFrees = (g : System) → AllAgree g → NamesAgree g → FreesAgree g → (d : Durable) (v : Option Server) (p : List (ℕ × Msg)) (γ : Ghost) → g.durable.next_id ≤ d.next_id → GhostsMove g γ
    → FreesAgree (record g { durable = d; server = v; pool = p; ghost = γ })

abbrev pub MovesFollow : Type 0
MovesFollow = (g : System) → AllAgree g → NamesAgree g → (γ : Ghost) → GhostsMove g γ → GhostsFollow g γ

-- behind each step of a running server
abbrev pub ServersKeepFrees : Type 0
ServersKeepFrees = (g : System) (v : Server) (f : Serving) (γ : Ghost) → AllAgree g → g.server ≡ Some v → StepStands g f γ → Makes g v f.rec γ → NamesAgree g → FreesAgree g → FreesAgree (serving_in f γ g)

-- behind whatever leaves what these facts read
abbrev pub FreesAreRead : Type 0
FreesAreRead = (g h : System) → FreesAgree g → h.origin ≡ g.origin → h.clerks ≡ g.clerks → h.ghost.kept ≡ g.ghost.kept → h.ghost.frozen ≡ g.ghost.frozen → h.ghost.owner ≡ g.ghost.owner → h.ghost.grants ≡ g.ghost.grants → h.ghost.first ≡ g.ghost.first → FreesAgree h

-- and where no clerk was started
abbrev pub FreesBegin : Type 0
FreesBegin = (g : System) → g.clerks ≡ (λ c b. None) → FreesAgree g

-- Clerks.

-- behind a change of one start that goes on with the ids that it has, or is in no session
abbrev pub ClerksKeepFrees : Type 0
ClerksKeepFrees = (g : System) → FreesAgree g → (c b : ℕ) (now : Clerk) → ((k : Clerk) × (g.clerks c b ≡ Some k) × IsStill k now) ⊎ (now.session ≡ None) → (running : ℕ → Option ℕ) (boots : ℕ → ℕ) (calls : Calls) (p : List (ℕ × Msg)) (γ : Ghost)
    → γ.owner ≡ g.ghost.owner → γ.grants ≡ g.ghost.grants → γ.first ≡ g.ghost.first → γ.kept ≡ g.ghost.kept → γ.frozen ≡ g.ghost.frozen
    → FreesAgree (record g { clerks = with_start c b now g.clerks; running = running; boots = boots; calls = calls; pool = p; ghost = γ })

-- behind each step of it under way that does, whatever comes out and lines show
abbrev pub StillsKeepFrees : Type 0
StillsKeepFrees = (g : System) (c b : ℕ) (d e : Doing) (γ δ : Ghost) → IsStill d.clerk e.clerk → δ.owner ≡ γ.owner → δ.grants ≡ γ.grants → δ.first ≡ γ.first → δ.kept ≡ γ.kept → δ.frozen ≡ γ.frozen
    → FreesAgree (doing_in c b d γ g) → FreesAgree (doing_in c b e δ g)

-- so the functions do that answer no call
abbrev pub Stills : (Doing → Doing) → Type 0
Stills f = (d : Doing) → IsStill d.clerk (f d).clerk

pub record AreStill : Type 0 where
  pub recalls : Stills answer_recalls
  pub pushes : Stills ask_pushes
  pub keep_push : (n : ℕ) → Stills (keep_push n)
  pub evict : Stills evict
  pub ask_for : (a : Asked) → Stills (ask_for a)
  pub claim : Stills claim
  pub outstanding : Stills send_outstanding
  pub want : (x : ℕ) (h : Hold) → Stills (want x h)
  pub resend_want : (x : ℕ) (h : Hold) (sent : List (ℕ × Hold)) → Stills (resend_want x h sent)
  pub ask_room : Stills ask_room
  pub grants : (m : Msg) → IsGrant m → Stills (taken m)
  pub takes_recall : (m : Msg) → IsRecall m → Stills (taken m)
  pub kept : (m : Msg) → IsKept m → Stills (taken m)

-- of a clerk in a session a restart is one, too
abbrev pub RestartsAreStill : Type 0
RestartsAreStill = (d : Doing) (s : ℕ) → d.clerk.session ≡ Some s → (m : Msg) → IsRestarted m → IsStill d.clerk (taken m d).clerk

-- ids are taken
abbrev pub IdsKeepFrees : Type 0
IdsKeepFrees = (g : System) (c b s : ℕ) (d : Doing) (γ : Ghost) → IsInHand g c b s d γ → (m : Msg) → IsIds m → Fits (view (doing_in c b d γ g)) m → FreesAgree (doing_in c b d γ g) → FreesAgree (doing_in c b (taken m d) γ g)

-- a session is taken, or left
abbrev pub OpenedKeepsFrees : Type 0
OpenedKeepsFrees = (g : System) (c b : ℕ) (d : Doing) (γ : Ghost) → AllAgree (doing_in c b d γ g) → FreesAgree (doing_in c b d γ g) → d.clerk.session ≡ None → (age : Age) (s e : ℕ) → T (not (γ.taken s))
    → FreesAgree (doing_in c b (take_opened age s e d) (take_session s γ) g)

abbrev pub EndedKeepsFrees : Type 0
EndedKeepsFrees = (g : System) (c b : ℕ) (d : Doing) (γ : Ghost) → FreesAgree (doing_in c b d γ g) → (w : Window) (ls : List Shown) → FreesAgree (doing_in c b (take_ended w d) (record γ { shown = ls }) g)
