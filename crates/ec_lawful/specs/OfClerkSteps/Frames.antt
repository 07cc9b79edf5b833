-- What is proved of the facts on cut-off starts and on counted ones, as contracts name it: they stand behind each step.
use Rattle.std.specs.Prelude.{◌≡◌, ◌⊎◌, ℕ, T, Bool, not, List, [], ◌∷◌, ◌++◌, Option, None, Some}
use Rattle.ec_base.specs.Tables.{keys}
use Rattle.ec_base.specs.declared.ids.Hold.{Hold}
use Rattle.ec_volume.specs.declared.image.Image.{Image}
use Rattle.ec_plain.specs.declared.call.Call.{Call}
use Rattle.ec_history.specs.declared.entry.Answer.{Answer}
use Rattle.ec_history.specs.declared.shown.Shown.{Shown}
use Rattle.ec_history.specs.declared.shown.Shown.TheVariants.{Answered, Waits}
use Rattle.ec_history.specs.declared.watch.Watch.{Watch}
use Rattle.ec_cache.specs.Cache as cache
use Rattle.ec_log.specs.declared.state.Asked.{Asked}
use Rattle.ec_volume.specs.declared.update.Update.{Update}
use Rattle.ec_history.specs.History.{Op}
use Rattle.ec_history.specs.Placing.{watch, watch_next}
use Rattle.ec_sessions.specs.declared.slot.Slot.{Slot}
use Rattle.ec_sessions.specs.declared.window.Window.{Window}
use Rattle.ec_wire.specs.declared.msg.Msg.{Msg}
use Rattle.ec_wire.specs.declared.msg.Msg.TheVariants.{Kept}
use Rattle.ec_durable.specs.Durable.{slot}
use Rattle.ec_durable.specs.declared.state.Durable.{Durable}
use Rattle.ec_durable.specs.declared.record.Record.{Record}
use Rattle.ec_durable.specs.declared.record.Record.TheVariants.{Batch, Open, End, Ids, Epoch}
use Rattle.ec_log.specs.Log.{issue, kept}
use Rattle.ec_log.specs.declared.state.LogState.{LogState}
use Rattle.ec_protocol.specs.Clerk.{Doing, answer_recalls, ask_for, ask_pushes, ask_room, claim, evict, in_session, send_outstanding, take_ids, take_recall, take_restarted, want, with_cache, with_log}
use Rattle.ec_protocol.specs.declared.clerk.Clerk.{Clerk}
use Rattle.ec_protocol.specs.declared.server.Server.{Server}
use Rattle.ec_coherence.specs.System.{System, Ghost, at_session, with_start}
use Rattle.ec_coherence.specs.Sessions as sessions
use Rattle.ec_coherence.specs.Events.{IsUncut}
use Rattle.ec_coherence.specs.Log.{Knows}
use Rattle.ec_coherence.specs.Steps.{Committed, UnderClerk, doing_in, give_ids, open_session}
use Rattle.ec_coherence.specs.ChangeLaws.{next_op}
use Rattle.ec_coherence.specs.CommitLaws.{AllAgree, show_batch}
use Rattle.ec_coherence.specs.StandLaws.{IsUnderWay, crashed, lined, stopped}
use Rattle.ec_coherence.specs.Ends.{show_end}
use Rattle.ec_lawful.specs.OfClerkSteps.Counts.{CountsAgree}
use Rattle.ec_lawful.specs.OfClerkSteps.Cuts.{CutsAgree}

-- The server.

-- what a record makes of the ghosts: a batch is shown, a session ends or opens, perhaps in the place of an open one, or is given ids
abbrev pub RecordMakes : System → Option Record → Ghost → Type 0
RecordMakes g None γ = γ ≡ g.ghost
RecordMakes g (Some (Batch c s b ops)) γ = (sl : Slot) × (slot g.durable c ≡ Some sl) × T sl.is_open × (sl.session ≡ s) × (γ ≡ show_batch c (sl.age).boot (keys ops) g.ghost)
RecordMakes g (Some (Open c age s)) γ =
    (((sl : Slot) → slot g.durable c ≡ Some sl → T (not sl.is_open)) × (γ ≡ open_session c age s g.ghost))
    ⊎ ((sl : Slot) × (slot g.durable c ≡ Some sl) × T sl.is_open × (γ ≡ open_session c age s (show_end g c sl)))
RecordMakes g (Some (End c s)) γ = (sl : Slot) × (slot g.durable c ≡ Some sl) × T sl.is_open × (sl.session ≡ s) × (γ ≡ show_end g c sl)
RecordMakes g (Some (Ids c s got first)) γ = γ ≡ give_ids s first g.ghost
RecordMakes g (Some (Epoch e)) γ = γ ≡ g.ghost

abbrev pub system_behind : System → Durable → Option Server → List (ℕ × Msg) → Ghost → System
system_behind g d v p γ = record g { durable = d; server = v; pool = p; ghost = γ }

-- both facts stand behind a record, where all facts do
abbrev pub RecordsKeep : Type 0
RecordsKeep = (g : System) → AllAgree g → (r : Option Record) (d : Durable) (v : Option Server) (p : List (ℕ × Msg)) (γ : Ghost) → Committed g.durable r d → RecordMakes g r γ → AllAgree (system_behind g d v p γ)
    → (CutsAgree g → CutsAgree (system_behind g d v p γ)) × (CountsAgree g → CountsAgree (system_behind g d v p γ))

-- What is the same for these facts: the slots, the starts, who opened and saw what, and what the lines have of each clerk.
pub record SameCuts (g h : System) : Type 0 where
  pub slots : (c : ℕ) → slot h.durable c ≡ slot g.durable c
  pub running : h.running ≡ g.running
  pub clerks : h.clerks ≡ g.clerks
  pub owner : h.ghost.owner ≡ g.ghost.owner
  pub frozen : h.ghost.frozen ≡ g.ghost.frozen
  pub is_durable : h.ghost.is_durable ≡ g.ghost.is_durable
  pub untold : (c : ℕ) → (watch c h.ghost.shown).untold ≡ (watch c g.ghost.shown).untold

abbrev pub SameCutsKeep : Type 0
SameCutsKeep = (g h : System) → SameCuts g h → CutsAgree g → CutsAgree h

-- a start crashes
abbrev pub CrashesKeep : Type 0
CrashesKeep = (g : System) → AllAgree g → (c : ℕ) → (CutsAgree g → CutsAgree (crashed g c)) × (CountsAgree g → CountsAgree (crashed g c))

-- Clerks.

-- what is known of the operations by this log is known by that one
abbrev pub LogKeeps : LogState → LogState → Type 0
LogKeeps l m = (w : Window) (os : List Op) (dur : Op → Bool) → Knows l w os dur → Knows m w os dur

-- A step goes on at its age, with a log that knows no less.
pub record IsCalm (d e : Doing) : Type 0 where
  pub age : e.clerk.age ≡ d.clerk.age
  pub log : LogKeeps d.clerk.log e.clerk.log

-- so cut-off starts stand
abbrev pub CalmStepsKeep : Type 0
CalmStepsKeep = (g : System) (c b : ℕ) (d e : Doing) (γ : Ghost) → IsCalm d e → CutsAgree (doing_in c b d γ g) → CutsAgree (doing_in c b e γ g)

-- the functions of a step that answer no call are calm
pub record AreCalm : Type 0 where
  pub asks : (a : Asked) (d : Doing) → IsCalm d (ask_for a d)
  pub recalls : (d : Doing) → IsCalm d (answer_recalls d)
  pub pushes : (d : Doing) → IsCalm d (ask_pushes d)
  pub wants : (x : ℕ) (h : Hold) (d : Doing) → IsCalm d (want x h d)
  pub rooms : (d : Doing) → IsCalm d (ask_room d)
  pub claims : (d : Doing) → IsCalm d (claim d)
  pub outstanding : (d : Doing) → IsCalm d (send_outstanding d)
  pub evicts : (d : Doing) → IsCalm d (evict d)
  pub grants : (x : ℕ) (h : Hold) (n : ℕ) (i : Image) (d : Doing) → IsCalm d (with_cache (cache.take x h n i) d)
  pub takes_recall : (x n : ℕ) (h : Hold) (d : Doing) → IsCalm d (take_recall x n h d)
  pub takes_ids : (got n first : ℕ) (d : Doing) → IsCalm d (take_ids got n first d)
  pub restarts : (e : ℕ) (d : Doing) → IsCalm d (take_restarted e d)
  pub within : (s e : ℕ) (f : Doing → Doing) (d : Doing) → IsCalm d (f d) → IsCalm d (in_session s e f d)
  pub then : (d e f : Doing) → IsCalm d e → IsCalm e f → IsCalm d f
  pub rest : (d e : Doing) → e.clerk.age ≡ d.clerk.age → e.clerk.log ≡ d.clerk.log → IsCalm d e

-- a batch that the server acknowledges is in the slot's window: passing it, too, leaves what is known
abbrev pub KeptBatchesKeep : Type 0
KeptBatchesKeep = (g : System) (c b s : ℕ) (d : Doing) (γ : Ghost) → IsUnderWay g c b s d γ → (e n : ℕ) → sessions.Fits (doing_in c b d γ g) c (Kept s e n) → CutsAgree (doing_in c b d γ g) → CutsAgree (doing_in c b (with_log (kept n) d) γ g)

-- Answers.

-- the system behind an answer of this start, as these facts read it: these operations came, and of cut-off starts it alone saw more
pub record AnswersAs (g h : System) (c b : ℕ) (k now : Clerk) (l : ℕ) (cl : Call) (a : Answer) (op : Option ℕ) : Type 0 where
  pub runs : g.running c ≡ Some b
  pub stands : g.clerks c b ≡ Some k
  pub age : now.age ≡ k.age
  pub slots : (f : ℕ) → slot h.durable f ≡ slot g.durable f
  pub running : h.running ≡ g.running
  pub clerks : h.clerks ≡ with_start c b now g.clerks
  pub owner : h.ghost.owner ≡ g.ghost.owner
  pub is_durable : h.ghost.is_durable ≡ g.ghost.is_durable
  pub shown : h.ghost.shown ≡ g.ghost.shown ++ Answered l c cl a op ∷ []

-- a start that isn't cut off answers, or one that is, without an operation
abbrev pub PlainAnswersKeep : Type 0
PlainAnswersKeep = (g h : System) (c b : ℕ) (k now : Clerk) (l : ℕ) (cl : Call) (a : Answer) (op : Option ℕ) → AnswersAs g h c b k now l cl a op → h.ghost.frozen ≡ g.ghost.frozen
    → IsUncut g c k ⊎ ((op ≡ None) × (now.log ≡ k.log)) → CutsAgree g → CutsAgree h

-- one that is cut off answers with an operation: what it saw gets it
abbrev pub LateAnswersKeep : Type 0
LateAnswersKeep = (g h : System) → AllAgree g → (c b s : ℕ) (k now : Clerk) (l : ℕ) (cl : Call) (a : Answer) (place : ℕ) (u : Update) (ks : List Op) → AnswersAs g h c b k now l cl a (Some k.log.next)
    → g.ghost.owner s ≡ Some (c, k.age) → g.ghost.frozen s ≡ Some ks → now.log ≡ issue u k.log → h.ghost.frozen ≡ at_session s (Some (ks ++ next_op c b k place u ∷ [])) g.ghost.frozen
    → CutsAgree g → CutsAgree h

-- Counted starts behind a clerk's step: it runs, and shows its own lines alone.
abbrev pub StepsKeepCounts : Type 0
StepsKeepCounts = (g : System) (c b : ℕ) (d : Doing) (γ : Ghost) → UnderClerk g c b d γ → CountsAgree g → CountsAgree (doing_in c b d γ g)

-- and behind one more line of a clerk that runs, or that begins no start
abbrev pub LinesKeepCounts : Type 0
LinesKeepCounts = (g : System) → CountsAgree g → (l : Shown) → ((c : ℕ) → g.running c ≡ None → (watch c (g.ghost.shown ++ l ∷ [])).starts ≡ (watch c g.ghost.shown).starts) → CountsAgree (lined g l)

-- a line of a call that waits, of a clerk that runs, and lines that say nothing of clerks; and a stop with its line
abbrev pub LinesKeepBoth : Type 0
LinesKeepBoth = (g : System) → (CutsAgree g → CountsAgree g → (c b l : ℕ) (cl : Call) → g.running c ≡ Some b → CutsAgree (lined g (Waits l c cl)) × CountsAgree (lined g (Waits l c cl)))
    × (CutsAgree g → CountsAgree g → (l : Shown) → ((c : ℕ) (w : Watch) → watch_next c w l ≡ w) → CutsAgree (lined g l) × CountsAgree (lined g l))
    × (CutsAgree g → CountsAgree g → CutsAgree (stopped g) × CountsAgree (stopped g))

-- where nothing runs yet
abbrev pub OpeningKeeps : Type 0
OpeningKeeps = (g : System) → ((c : ℕ) → g.running c ≡ None) → g.ghost.shown ≡ [] → ((c : ℕ) → g.boots c ≡ g.first_boot c) → CutsAgree g × CountsAgree g
