-- What is proved of the id 0 and of refusals of room, as contracts name it: what holds of them stays behind every step that answers nothing.
use Rattle.std.specs.Prelude.{◌≡◌, ◌≤◌, ℕ, zero, suc, List, [], None, Option}
use Rattle.ec_base.specs.declared.ids.Hold.{Hold}
use Rattle.ec_plain.specs.declared.call.Call.{Call}
use Rattle.ec_volume.specs.declared.image.Image.{Image}
use Rattle.ec_volume.specs.declared.image.Image.TheVariants.{Gone}
use Rattle.ec_cache.specs.Cache as cache
use Rattle.ec_wire.specs.declared.msg.Msg.{Msg}
use Rattle.ec_wire.specs.declared.msg.Msg.TheVariants.{Ids}
use Rattle.ec_sessions.specs.declared.window.Window.{Window}
use Rattle.ec_durable.specs.declared.state.Durable.{Durable}
use Rattle.ec_durable.specs.declared.record.Record.{Record}
use Rattle.ec_log.specs.Log.{kept}
use Rattle.ec_log.specs.declared.state.Asked.{Asked}
use Rattle.ec_protocol.specs.Clerk.{Doing, add_call, answer_recalls, ask_for, ask_pushes, ask_room, begin, bye, claim, evict, flush, hello, in_session, keep_push, new_clerk, push, resend, send_outstanding, start as start_clerk, take as take_message, take_ended, take_ids, take_opened, take_recall, take_restarted, want, with_cache, with_clerk, with_log}
use Rattle.ec_base.specs.declared.ids.Age.{Age}
use Rattle.ec_protocol.specs.Server.{end, start, take}
use Rattle.ec_protocol.specs.declared.clerk.Clerk.{Clerk}
use Rattle.ec_protocol.specs.declared.server.Server.{Server}
use Rattle.ec_coherence.specs.System.{System, Ghost, with_start}
use Rattle.ec_coherence.specs.Tokens.{Fits, view}
use Rattle.ec_coherence.specs.Steps.{Committed, doing_in, serving_in}
use Rattle.ec_coherence.specs.StandLaws.{IsUnderWay}
use Rattle.ec_lawful.specs.OfClerkSteps.Frames.{RecordMakes, system_behind}
use Rattle.ec_lawful.specs.OfClerkSteps.Frees.{FullsAgree}
use Rattle.ec_lawful.specs.OfClerkSteps.Zeros.{HasNoZero, ZerosAgree}

-- The id 0.

-- behind a record
abbrev pub RecordsKeepZeros : Type 0
RecordsKeepZeros = (g : System) → ZerosAgree g → (r : Option Record) (d : Durable) (v : Option Server) (p : List (ℕ × Msg)) (γ : Ghost) → Committed g.durable r d → RecordMakes g r γ → ZerosAgree (system_behind g d v p γ)

-- what is the same: the volume at first, what is kept and was seen, and which ids were given
pub record SameZeros (g h : System) : Type 0 where
  pub origin : h.origin ≡ g.origin
  pub kept : h.ghost.kept ≡ g.ghost.kept
  pub frozen : h.ghost.frozen ≡ g.ghost.frozen
  pub next_id : h.durable.next_id ≡ g.durable.next_id
  pub grants : h.ghost.grants ≡ g.ghost.grants
  pub first : h.ghost.first ≡ g.ghost.first

-- and where one start changes, it hasn't the id either
abbrev pub ChangesKeepZeros : Type 0
ChangesKeepZeros = (g h : System) → SameZeros g h → (h.clerks ≡ g.clerks → ZerosAgree g → ZerosAgree h)
    × ((c b : ℕ) (now : Clerk) → h.clerks ≡ with_start c b now g.clerks → HasNoZero now → ZerosAgree g → ZerosAgree h)

-- so it is behind a clerk's step that keeps those ghosts
abbrev pub StepsKeepZeros : Type 0
StepsKeepZeros = (g : System) (c b : ℕ) (d e : Doing) (γ δ : Ghost) → SameZeros (doing_in c b d γ g) (doing_in c b e δ g) → HasNoZero e.clerk → ZerosAgree (doing_in c b d γ g) → ZerosAgree (doing_in c b e δ g)

-- where nobody is there yet, over a volume without that object
abbrev pub OpeningZeros : Type 0
OpeningZeros = (g : System) → g.origin 0 ≡ Gone → g.ghost.kept ≡ [] → ((s : ℕ) → (g.ghost.frozen s ≡ None)) → suc zero ≤ g.durable.next_id → ((s : ℕ) → g.ghost.grants s ≡ 0) → ((c b : ℕ) → g.clerks c b ≡ None) → ZerosAgree g

-- A step's clerk has the same ids, undurable operations and debts.
pub record SameParts (d e : Doing) : Type 0 where
  pub ids : e.clerk.ids ≡ d.clerk.ids
  pub undurable : e.clerk.log.undurable ≡ d.clerk.log.undurable
  pub owed : e.clerk.owed ≡ d.clerk.owed

-- most functions of a step that answer no call leave them, and the others bring no 0
pub record HaveNoZero : Type 0 where
  pub same : (d e : Doing) → SameParts d e → HasNoZero d.clerk → HasNoZero e.clerk
  pub then : (d e f : Doing) → SameParts d e → SameParts e f → SameParts d f
  pub asks : (a : Asked) (d : Doing) → SameParts d (ask_for a d)
  pub recalls : (d : Doing) → SameParts d (answer_recalls d)
  pub pushes : (d : Doing) → SameParts d (ask_pushes d)
  pub wants : (x : ℕ) (h : Hold) (d : Doing) → SameParts d (want x h d)
  pub rooms : (d : Doing) → SameParts d (ask_room d)
  pub claims : (d : Doing) → SameParts d (claim d)
  pub outstanding : (d : Doing) → SameParts d (send_outstanding d)
  pub evicts : (d : Doing) → SameParts d (evict d)
  pub grants : (x : ℕ) (h : Hold) (n : ℕ) (i : Image) (d : Doing) → SameParts d (with_cache (cache.take x h n i) d)
  pub takes_recall : (x n : ℕ) (h : Hold) (d : Doing) → SameParts d (take_recall x n h d)
  pub restarts : (e : ℕ) (d : Doing) → SameParts d (take_restarted e d)
  pub hellos : (d : Doing) → SameParts d (hello d)
  pub joins : (age : Age) (s e : ℕ) (d : Doing) → SameParts d (take_opened age s e d)
  pub within : (s e : ℕ) (f : Doing → Doing) (d : Doing) → SameParts d (f d) → SameParts d (in_session s e f d)
  pub calls : (cl : Call) (d : Doing) → SameParts d (with_clerk (add_call cl) d)
  pub pushed : (n : ℕ) (d : Doing) → SameParts d (keep_push n d)
  pub kept_batch : (n : ℕ) (d : Doing) → HasNoZero d.clerk → HasNoZero (with_log (kept n) d).clerk
  pub ended : (w : Window) (d : Doing) → HasNoZero d.clerk → HasNoZero (take_ended w d).clerk
  pub fresh : (c b : ℕ) → HasNoZero (new_clerk c b)

-- ids that it takes begin above it
abbrev pub IdsHaveNoZero : Type 0
IdsHaveNoZero = (g : System) (c b s : ℕ) (d : Doing) (γ : Ghost) → IsUnderWay g c b s d γ → ZerosAgree (doing_in c b d γ g) → (e got n first : ℕ) → Fits (view (doing_in c b d γ g)) (Ids s e got n first) → HasNoZero (take_ids got n first d).clerk

-- Refusals of room.

-- a server refuses room where there is none: in the step of a message, of an end and of a start
abbrev pub ServersRefuseRightly : Type 0
ServersRefuseRightly = (g : System) (v : Server) → v.durable ≡ g.durable → FullsAgree g → (γ : Ghost)
    → ((c : ℕ) (m : Msg) → FullsAgree (serving_in (take c m v) γ g)) × ((c : ℕ) → FullsAgree (serving_in (end c v) γ g))

abbrev pub StartsRefuseNone : Type 0
StartsRefuseNone = (g : System) → FullsAgree g → (γ : Ghost) (d : Durable) → d.max_objects ≡ g.durable.max_objects → FullsAgree (serving_in (start d) γ g)

-- a clerk never does
abbrev pub ClerksRefuseNone : Type 0
ClerksRefuseNone = (g : System) (c b : ℕ) (γ : Ghost) → FullsAgree g
    → ((m : Msg) (k : Clerk) → FullsAgree (doing_in c b (take_message m k) γ g)) × ((cl : Call) (k : Clerk) → FullsAgree (doing_in c b (begin cl k) γ g)) × ((n : ℕ) (k : Clerk) → FullsAgree (doing_in c b (push n k) γ g))
    × ((k : Clerk) → FullsAgree (doing_in c b (resend k) γ g)) × ((k : Clerk) → FullsAgree (doing_in c b (bye k) γ g)) × ((a : Asked) (k : Clerk) → FullsAgree (doing_in c b (flush a k) γ g))
    × ((boot : ℕ) → FullsAgree (doing_in c b (start_clerk c boot) γ g))
