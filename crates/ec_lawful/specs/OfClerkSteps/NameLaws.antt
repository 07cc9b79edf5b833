-- What is proved of the facts on names behind all other steps, as contracts name it.
use Rattle.std.specs.Prelude.{◌≡◌, ◌≤◌, ◌<◌, ℕ, T, List, [], Option, None, Some, not}
use Rattle.ec_base.specs.declared.ids.Age.{Age}
use Rattle.ec_volume.specs.Image.{entries_of}
use Rattle.ec_volume.specs.Update.{member, root}
use Rattle.ec_plain.specs.declared.call.Call.{Call}
use Rattle.ec_history.specs.History.{Each, History, Op}
use Rattle.ec_history.specs.declared.entry.Answer.{Answer}
use Rattle.ec_history.specs.declared.shown.Shown.{Shown}
use Rattle.ec_cache.specs.declared.state.Held.{Held}
use Rattle.ec_base.specs.Tables.{at}
use Rattle.ec_sessions.specs.declared.window.Window.{Window}
use Rattle.ec_durable.specs.declared.state.Durable.{Durable}
use Rattle.ec_wire.specs.declared.msg.Msg.{Msg}
use Rattle.ec_protocol.specs.Clerk.{Doing, take_ended, take_opened, verdict}
use Rattle.ec_protocol.specs.Server.{Serving}
use Rattle.ec_protocol.specs.declared.clerk.Clerk.{Clerk}
use Rattle.ec_protocol.specs.declared.clerk.Out.{Out}
use Rattle.ec_protocol.specs.declared.server.Server.{Server}
use Rattle.ec_coherence.specs.System.{System, Ghost, clerk_in, with_start}
use Rattle.ec_coherence.specs.Clerks.{take_session}
use Rattle.ec_coherence.specs.Sessions.{SessionsAgree}
use Rattle.ec_coherence.specs.Tokens.{Names, TokensAgree, view}
use Rattle.ec_coherence.specs.Images.{ImagesAgree}
use Rattle.ec_coherence.specs.Steps.{doing_in, serving_in}
use Rattle.ec_coherence.specs.ChangeLaws.{Calls}
use Rattle.ec_coherence.specs.CommitLaws.{AllAgree, StepStands}
use Rattle.ec_coherence.specs.Answers.{op_given}
use Rattle.ec_coherence.specs.Comes.{after_answer}
use Rattle.ec_coherence.specs.Makes.{Makes}
use Rattle.ec_lawful.specs.OfClerkSteps.Names.{AreOnNamed, NamesAgree}
use Rattle.ec_lawful.specs.OfClerkSteps.Orderly.{OrderlyAgree}
use Rattle.ec_lawful.specs.OfClerkSteps.Follows.{Follows, GhostsFollow, IsPlaced}

-- behind any step that follows
abbrev pub NamesFollow : Type 0
NamesFollow = (g h : System) → NamesAgree g → Follows g h → NamesAgree h

-- behind whatever leaves what these facts read
abbrev pub NamesAreRead : Type 0
NamesAreRead = (g h : System) → NamesAgree g → h.origin ≡ g.origin → h.clerks ≡ g.clerks → g.durable.next_id ≤ h.durable.next_id → h.ghost.kept ≡ g.ghost.kept → h.ghost.frozen ≡ g.ghost.frozen → h.ghost.owner ≡ g.ghost.owner
    → h.ghost.grants ≡ g.ghost.grants → h.ghost.first ≡ g.ghost.first → NamesAgree h

-- The server.

-- behind any change of the durable state, the server, messages and ghosts that follows, also where sessions got owners
abbrev pub StatesKeepNames : Type 0
StatesKeepNames = (g : System) → SessionsAgree g → NamesAgree g → (d : Durable) (v : Option Server) (p : List (ℕ × Msg)) (γ : Ghost) → g.durable.next_id ≤ d.next_id → GhostsFollow g γ → NamesAgree (record g { durable = d; server = v; pool = p; ghost = γ })

-- behind each step of a running server
abbrev pub ServersKeepNames : Type 0
ServersKeepNames = (g : System) (v : Server) (f : Serving) (γ : Ghost) → AllAgree g → g.server ≡ Some v → StepStands g f γ → Makes g v f.rec γ → NamesAgree g → NamesAgree (serving_in f γ g)

-- it leaves the clerks in order
abbrev pub ServersKeepOrder : Type 0
ServersKeepOrder = (g : System) (f : Serving) (γ : Ghost) → OrderlyAgree g → OrderlyAgree (serving_in f γ g)

-- Clerks.

-- what is held is named
abbrev pub HeldIsNamed : Type 0
HeldIsNamed = (g : System) → TokensAgree (view g) → (s : ℕ) (k : Clerk) → clerk_in g s ≡ Some k → (x : ℕ) (o : Held) → at x k.cache.held ≡ Some o → Names (view g) x

-- so are the operands of what a clerk in a session issues by a verdict
abbrev pub OpsAreNamed : Type 0
OpsAreNamed = (g : System) → NamesAgree g → ImagesAgree g → (s : ℕ) (k : Clerk) → clerk_in g s ≡ Some k → (c b p : ℕ) (cl : Call) → AreOnNamed g (op_given c b p k (verdict cl k))

-- behind any change of one start, with ghosts that follow
abbrev pub ClerksKeepNames : Type 0
ClerksKeepNames = (g : System) → NamesAgree g → (c b : ℕ) (now : Clerk) → IsPlaced g c b now → (running : ℕ → Option ℕ) (boots : ℕ → ℕ) (calls : Calls) (p : List (ℕ × Msg)) (γ : Ghost)
    → γ.owner ≡ g.ghost.owner → γ.grants ≡ g.ghost.grants → γ.first ≡ g.ghost.first → AreOnNamed g γ.kept → ((s : ℕ) (ks : List Op) → γ.frozen s ≡ Some ks → AreOnNamed g ks)
    → NamesAgree (record g { clerks = with_start c b now g.clerks; running = running; boots = boots; calls = calls; pool = p; ghost = γ })

-- behind an answer of a start, in an open session or in none
abbrev pub AnswersKeepNames : Type 0
AnswersKeepNames = (g : System) → AllAgree g → NamesAgree g → (c b : ℕ) (k : Clerk) → g.clerks c b ≡ Some k → (d : Doing) → d.clerk.session ≡ k.session → d.clerk.got ≡ k.got → ((x : ℕ) → T (member x d.clerk.ids) → T (member x k.ids))
    → (l : ℕ) (cl : Call) (a : Answer) (op : Option ℕ) → NamesAgree (after_answer g c b k d l cl a op)

-- behind what comes out of a step, and lines
abbrev pub OutsKeepNames : Type 0
OutsKeepNames = (g : System) (c b : ℕ) (d : Doing) (γ : Ghost) → NamesAgree (doing_in c b d γ g) → (os : List Out) (ls : List Shown) (hs : History) → NamesAgree (doing_in c b (record d { outs = os }) (record γ { shown = ls; history = hs }) g)

-- behind a session that its clerk takes
abbrev pub OpenedKeepsNames : Type 0
OpenedKeepsNames = (g : System) (c b : ℕ) (d : Doing) (γ : Ghost) → AllAgree (doing_in c b d γ g) → NamesAgree (doing_in c b d γ g) → d.clerk.session ≡ None → (age : Age) (s e : ℕ) → T (not (γ.taken s))
    → NamesAgree (doing_in c b (take_opened age s e d) (take_session s γ) g)

-- and behind one that it leaves, with its line
abbrev pub EndedKeepsNames : Type 0
EndedKeepsNames = (g : System) (c b : ℕ) (d : Doing) (γ : Ghost) → NamesAgree (doing_in c b d γ g) → (w : Window) (ls : List Shown) → NamesAgree (doing_in c b (take_ended w d) (record γ { shown = ls }) g)

-- At the beginning: no clerk was started, nothing is kept, and all that the volume's entries name is below the next id.
abbrev pub NamesBegin : Type 0
NamesBegin = (g : System) → g.clerks ≡ (λ c b. None) → g.ghost.kept ≡ [] → ((s : ℕ) (ks : List Op) → g.ghost.frozen s ≡ Some ks → ks ≡ []) → root < g.durable.next_id → ((x : ℕ) → Each (λ e. e.1 < g.durable.next_id) (entries_of (g.origin x)))
    → NamesAgree g × OrderlyAgree g
