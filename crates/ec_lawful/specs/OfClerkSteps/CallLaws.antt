-- What is proved of calls under way, as contracts name it.
use Rattle.std.specs.Prelude.{◌≡◌, ◌≤◌, ◌⊎◌, ◌==◌, ◌+◌, ℕ, T, Bool, true, false, not, List, [], ◌∷◌, ◌++◌, ◌&&◌, Option, None, Some, ⊤}
use Rattle.std.specs.List.{filter, list_all}
use Rattle.ec_base.specs.Tables.{at_or, put}
use Rattle.ec_plain.specs.BoundedCalls.{is_bounded}
use Rattle.ec_plain.specs.declared.call.Call.{Call}
use Rattle.ec_history.specs.History.{Each, Op, Covers, numbers, updates}
use Rattle.ec_history.specs.Placing.{Agrees, ArePlaceable, EachLine, MayFollow, Unanswered, shows}
use Rattle.ec_volume.specs.Volume.{after}
use Rattle.ec_volume.specs.declared.image.Image.TheVariants.{Gone}
use Rattle.ec_cache.specs.Cache.{images_held}
use Rattle.ec_plain.specs.declared.call.Outcome.{Outcome}
use Rattle.ec_sessions.specs.declared.window.Window.{Window}
use Rattle.ec_cache.specs.OfReport.Report.{Owed}
use Rattle.ec_cache.specs.OfResolve.Agreement.{Shows}
use Rattle.ec_cache.specs.declared.resolve.verdict.Verdict.TheVariants.{Done}
use Rattle.ec_coherence.specs.Log.{Knows}
use Rattle.ec_coherence.specs.Sessions.{HasNone}
use Rattle.ec_coherence.specs.Answers.{Gives, IsLive, Sees, based, fresh_of}
use Rattle.ec_coherence.specs.Comes.{entry_next}
use Rattle.ec_history.specs.declared.entry.Answer.{Answer}
use Rattle.ec_history.specs.declared.shown.Shown.{Shown}
use Rattle.ec_history.specs.declared.shown.Shown.TheVariants as show
use Rattle.ec_log.specs.LogOrder.{is_from}
use Rattle.ec_wire.specs.declared.msg.Msg.{Msg}
use Rattle.ec_wire.specs.declared.msg.Msg.TheVariants.{Ended, NoRoom}
use Rattle.ec_durable.specs.declared.state.Durable.{Durable}
use Rattle.ec_durable.specs.declared.record.Record.{Record}
use Rattle.ec_protocol.specs.Clerk.{Answered, Doing, Tried, Waits, add_call, answer_recalls, ask_pushes, doing, evict, first_id, has_session, hello, is_session, keep_push, resend, taken, try, try_all, verdict}
use Rattle.ec_protocol.specs.Server.{Serving}
use Rattle.ec_protocol.specs.declared.clerk.Clerk.{Clerk}
use Rattle.ec_protocol.specs.declared.clerk.Waiting.{Waiting}
use Rattle.ec_protocol.specs.declared.server.Server.{Server}
use Rattle.ec_coherence.specs.System.{System, Ghost, at_session, is_of, with_start}
use Rattle.ec_coherence.specs.Events.{CutAgrees, EventsAgree, shown_boot}
use Rattle.ec_coherence.specs.ChangeLaws.{Calls}
use Rattle.ec_coherence.specs.Steps.{call_of, calls_after, doing_in, less_call, serving_in}
use Rattle.ec_coherence.specs.CommitLaws.{AllAgree, StepStands}
use Rattle.ec_coherence.specs.StandLaws.{crashed, lined}
use Rattle.ec_lawful.specs.OfClerkSteps.Calls.{CallsAgree, is_shown}
use Rattle.ec_lawful.specs.OfClerkSteps.Waits.{AreAtRest, AreInTurn, HasLine, IsAtRest, NoneReady, does_wait}

-- Where nobody runs and no call is under way.
abbrev pub OpeningCalls : Type 0
OpeningCalls = (g : System) → ((c : ℕ) → g.running c ≡ None) → g.calls ≡ [] → CallsAgree g × AreAtRest g

-- Lines that are no calls, and that tell a clerk nothing.

abbrev pub is_quiet : Shown → Bool
is_quiet (show.Waits l c cl) = false
is_quiet (show.Answered l c cl a op) = false
is_quiet (show.Told c ns) = false
is_quiet (show.Crashed c) = false
is_quiet _ = true

-- the clerks, their starts and calls are the same
abbrev pub behind_server : System → Durable → Option Server → Option Record → List (ℕ × Msg) → Ghost → System
behind_server g d v r p γ = record g { durable = d; server = v; unshown = r; pool = p; ghost = γ }

-- behind such lines, whatever the server does
abbrev pub LinesKeepCalls : Type 0
LinesKeepCalls = (g : System) (d : Durable) (v : Option Server) (r : Option Record) (p : List (ℕ × Msg)) (γ : Ghost) → EventsAgree g → EventsAgree (behind_server g d v r p γ)
    → (ls : List Shown) → γ.shown ≡ g.ghost.shown ++ ls → T (list_all is_quiet ls)
    → (CallsAgree g → CallsAgree (behind_server g d v r p γ)) × (AreAtRest g → AreAtRest (behind_server g d v r p γ))

-- behind any step of a server
abbrev pub ServersKeepCalls : Type 0
ServersKeepCalls = (g : System) → AllAgree g → (γ : Ghost) (t : Serving) → StepStands g t γ → (CallsAgree g → CallsAgree (serving_in t γ g)) × (AreAtRest g → AreAtRest (serving_in t γ g))

-- behind a crash, with which its calls go
abbrev pub CrashesKeepCalls : Type 0
CrashesKeepCalls = (g : System) (c : ℕ) → (CallsAgree g → CallsAgree (crashed g c)) × (AreAtRest g → AreAtRest (crashed g c))

-- Of a clerk's step.

-- It answers nothing, and issues and begins nothing.
pub record IsQuiet (d e : Doing) : Type 0 where
  pub waiting : e.clerk.waiting ≡ d.clerk.waiting
  pub calls : e.clerk.calls ≡ d.clerk.calls
  pub next : e.clerk.log.next ≡ d.clerk.log.next
  pub first : e.clerk.log.first ≡ d.clerk.log.first
  pub own : (n : ℕ) → T (is_from n d.clerk.log.undurable) → T (is_from n e.clerk.log.undurable)
  pub outs : (c : ℕ) (calls : Calls) → calls_after c e.outs calls ≡ calls_after c d.outs calls

-- the step begins
abbrev pub CallsBeginSteps : Type 0
CallsBeginSteps = (g : System) (c b : ℕ) (k : Clerk) → g.clerks c b ≡ Some k → CallsAgree g → CallsAgree (doing_in c b (doing k) g.ghost g)

-- and goes on so
abbrev pub QuietKeepsCalls : Type 0
QuietKeepsCalls = (g : System) (c b : ℕ) (d e : Doing) (γ : Ghost) → IsQuiet d e
    → (CallsAgree (doing_in c b d γ g) → CallsAgree (doing_in c b e γ g)) × (Each (HasLine (doing_in c b d γ g) c) d.clerk.waiting → Each (HasLine (doing_in c b e γ g) c) e.clerk.waiting)

-- A call begins.

-- no call had the line
pub record IsNewLine (g : System) (l : ℕ) : Type 0 where
  pub unshown : is_shown g l ≡ false
  pub unused : (c n k : ℕ) (cl : Call) → call_of c n g.calls ≡ Some (k, cl) → (k == l) ≡ false

abbrev pub called : System → ℕ → ℕ → ℕ → Call → Clerk → System
called g c b l cl k = record g { clerks = with_start c b (add_call cl k) g.clerks; calls = put c (put (k.calls + 1) (l, cl) (at_or [] c g.calls)) g.calls }

-- it's the last of its start, and the others go on waiting
abbrev pub CallsBegin : Type 0
CallsBegin = (g : System) → EventsAgree g → (c b l : ℕ) (cl : Call) (k : Clerk) → g.running c ≡ Some b → g.clerks c b ≡ Some k → IsNewLine g l → T (is_bounded cl)
    → CallsAgree g → CallsAgree (called g c b l cl k) × (AreAtRest g → AreInTurn (called g c b l cl k) c (add_call cl k))

-- its line is shown
abbrev pub WaitsKeepCalls : Type 0
WaitsKeepCalls = (g : System) → EventsAgree g → (c n l : ℕ) (cl : Call) → call_of c n g.calls ≡ Some (l, cl) → CallsAgree g → CallsAgree (lined g (show.Waits l c cl))
    × ((k : Clerk) (earlier : List Waiting) (w : Waiting) → k.waiting ≡ earlier ++ w ∷ [] → w.no ≡ n → w.call ≡ cl → Each (HasLine g c) earlier → Each (HasLine (lined g (show.Waits l c cl)) c) k.waiting)

-- A clerk's start changes, with these calls under way, and sends messages.

abbrev pub with_change : System → ℕ → ℕ → Clerk → Calls → List (ℕ × Msg) → Ghost → System
with_change g c b k calls p γ = record g { clerks = with_start c b k g.clerks; calls = calls; pool = p; ghost = γ }

-- it's told that its session ended
abbrev pub TellsKeepCalls : Type 0
TellsKeepCalls = (g : System) → EventsAgree g → (c b : ℕ) (k now : Clerk) → g.running c ≡ Some b → g.clerks c b ≡ Some k → (p : List (ℕ × Msg)) (γ : Ghost) (ns : List ℕ) → γ.shown ≡ g.ghost.shown ++ show.Told c ns ∷ []
    → EventsAgree (with_change g c b now g.calls p γ) → now.waiting ≡ k.waiting → now.calls ≡ k.calls → now.log.next ≡ k.log.next → now.log.first ≡ now.log.next → now.log.undurable ≡ [] → CallsAgree g → CallsAgree (with_change g c b now g.calls p γ)

-- it answers this call
abbrev pub AnswersKeepCalls : Type 0
AnswersKeepCalls = (g : System) → EventsAgree g → (c b : ℕ) (k now : Clerk) → g.running c ≡ Some b → g.clerks c b ≡ Some k → (before after : List Waiting) (w : Waiting) (l : ℕ) → k.waiting ≡ before ++ w ∷ after → call_of c w.no g.calls ≡ Some (l, w.call)
    → (p : List (ℕ × Msg)) (γ : Ghost) (a : Answer) (op : Option ℕ) → γ.shown ≡ g.ghost.shown ++ show.Answered l c w.call a op ∷ [] → EventsAgree (with_change g c b now (less_call c w.no g.calls) p γ)
    → now.waiting ≡ before ++ after → now.calls ≡ k.calls → now.log.first ≡ k.log.first → (op ≡ None → now.log.next ≡ k.log.next) → T (is_from now.log.first now.log.undurable) → now.log.first ≤ now.log.next
    → (op ≡ None) ⊎ Each (HasLine g c) (before ++ after)
    → CallsAgree g → CallsAgree (with_change g c b now (less_call c w.no g.calls) p γ) × (Each (HasLine g c) (before ++ after) → Each (HasLine (with_change g c b now (less_call c w.no g.calls) p γ) c) (before ++ after))

-- A clerk's next start, without a call, comes up.
abbrev pub StartsKeepCalls : Type 0
StartsKeepCalls = (g : System) (c b : ℕ) (k : Clerk) (bs : ℕ → ℕ) (p : List (ℕ × Msg)) → let h = record g { clerks = with_start c b k g.clerks; running = at_session c (Some b) g.running; boots = bs; pool = p } in
    g.running c ≡ None → EventsAgree h → k.waiting ≡ [] → k.log.first ≡ k.log.next → k.log.undurable ≡ [] → k.recalls ≡ [] → (CallsAgree g → CallsAgree h) × (AreAtRest g → AreAtRest h)

-- What answers need.

-- the call on this line waits at the running start of the clerk
pub record IsWaiting (g : System) (c b : ℕ) (k : Clerk) (w : Waiting) (l : ℕ) : Type 0 where
  pub running : g.running c ≡ Some b
  pub stands : g.clerks c b ≡ Some k
  pub before : List Waiting
  pub after : List Waiting
  pub waits : k.waiting ≡ before ++ w ∷ after
  pub line : call_of c w.no g.calls ≡ Some (l, w.call)

-- its answer may follow, in a session, whether it ended or not; without one where it shows none
abbrev pub AnswersMayFollow : Type 0
AnswersMayFollow = (g : System) → AllAgree g → CallsAgree g → (c b : ℕ) (k : Clerk) (w : Waiting) (l : ℕ) → IsWaiting g c b k w l → (a : Answer) (op : Option ℕ) → (k.session ≡ None → shows w.call a ≡ false) → MayFollow g.ghost.shown (show.Answered l c w.call a op)

-- which it does of any call within its bounds, and without an operation
abbrev pub OutsideShowsNone : Type 0
OutsideShowsNone = (k : Clerk) → HasNone k → (cl : Call) → T (is_bounded cl) → (most : ℕ) (a : Answer) (op : Option ℕ) (rest : Owed) → Gives most k (verdict cl k) a op rest → (shows cl a ≡ false) × (op ≡ None)

-- the call's try answers it, where its verdict is an outcome
abbrev pub Passes : Clerk → Waiting → Type 0
Passes k w = (o : Outcome) → verdict w.call k ≡ Done o → does_wait w k ≡ false

-- what the answer of a clerk that isn't cut off covers is durable
abbrev pub SettledStands : Type 0
SettledStands = (g : System) → AllAgree g → CallsAgree g → (c b : ℕ) (k : Clerk) (w : Waiting) (l : ℕ) → IsWaiting g c b k w l → IsLive g c k → Sees g k → Passes k w
    → (most : ℕ) (a : Answer) (op : Option ℕ) (rest : Owed) → Gives most k (verdict w.call k) a op rest
    → (o : Op) → Covers (based g (fresh_of k)) g.ghost.history (entry_next g c b l w.call a op) o.clerk (shown_boot g o.clerk o.boot) o.number → T (g.ghost.is_durable o)

-- and the late answer of one that is cut off covers nothing of what it lost, where its log agrees with what it sees
abbrev pub LateSettledStands : Type 0
LateSettledStands = (g : System) → AllAgree g → CallsAgree g → (c b s : ℕ) (k : Clerk) (ks : List Op) (w : Waiting) (l : ℕ) → IsWaiting g c b k w l → g.ghost.owner s ≡ Some (c, k.age)
    → Shows k.cache (first_id k.ids) (after g.origin (updates ks)) → (window : Window) → Knows k.log window (filter (is_of (g.ghost.owner s)) ks) g.ghost.is_durable
    → (z : CutAgrees g c b s k ks) → z.lost ≡ numbers (filter (λ o. is_of (g.ghost.owner s) o && not (g.ghost.is_durable o)) ks) → Passes k w
    → (most : ℕ) (a : Answer) (op : Option ℕ) (rest : Owed) → Gives most k (verdict w.call k) a op rest
    → Each (λ n. ¬ (Covers (based g (fresh_of k)) z.before (entry_next g c b l w.call a op) c (shown_boot g c b) n)) z.lost

-- Of a clerk's functions alone.

-- a try answers
abbrev pub is_answer : Tried → Bool
is_answer (Waits e) = false
is_answer (Answered e) = true

-- Behind a change of what it asks for calls wait as they did.
pub record IsStill (d e : Doing) : Type 0 where
  pub quiet : IsQuiet d e
  pub cache : e.clerk.cache ≡ d.clerk.cache
  pub owed : e.clerk.owed ≡ d.clerk.owed
  pub ids : e.clerk.ids ≡ d.clerk.ids
  pub undurable : e.clerk.log.undurable ≡ d.clerk.log.undurable

abbrev pub IsStillIf : Doing → Tried → Type 0
IsStillIf d (Waits e) = IsStill d e × (e.clerk.recalls ≡ d.clerk.recalls)
IsStillIf d (Answered e) = ⊤

-- a try answers exactly a call that doesn't wait; of one that does it changes only what it asks for
abbrev pub TriesAnswer : Type 0
TriesAnswer = (w : Waiting) (d : Doing) → (is_answer (try w d) ≡ not (does_wait w d.clerk)) × IsStillIf d (try w d)

abbrev pub StillWaits : Type 0
StillWaits = (d e : Doing) → IsStill d e → (w : Waiting) → does_wait w e.clerk ≡ does_wait w d.clerk

-- they stay in turn, and where one doesn't wait all the others have their lines
abbrev pub StillKeepsTurn : Type 0
StillKeepsTurn = (g : System) (c b : ℕ) (d e : Doing) (γ : Ghost) → IsStill d e → AreInTurn (doing_in c b d γ g) c d.clerk → AreInTurn (doing_in c b e γ g) c e.clerk

abbrev pub TurnsAllow : Type 0
TurnsAllow = (g : System) (c : ℕ) (k : Clerk) → AreInTurn g c k → (before rest : List Waiting) (w : Waiting) → k.waiting ≡ before ++ w ∷ rest → does_wait w k ≡ false → Each (HasLine g c) (before ++ rest)

-- so is the beginning of a step where no recall is ready
abbrev pub prepared : Doing → Doing
prepared d = elim (has_session d.clerk) [ true ↦ ask_pushes (answer_recalls d) | false ↦ d ]

abbrev pub BeginsAreStill : Type 0
BeginsAreStill = (d : Doing) → NoneReady d.clerk → IsStill d (prepared d) × NoneReady (prepared d).clerk

-- Behind it no recall is ready; behind the tries all calls wait; and behind evictions, where the first free id is of no object.
abbrev pub SettlesRest : Type 0
SettlesRest = (d : Doing) → (d.clerk.session ≡ None → d.clerk.recalls ≡ []) → NoneReady (prepared d).clerk

abbrev pub TriesRest : Type 0
TriesRest = (d : Doing) → NoneReady d.clerk → Each (λ w. T (does_wait w (try_all d).clerk)) (try_all d).clerk.waiting × NoneReady (try_all d).clerk

abbrev pub EvictsRest : Type 0
EvictsRest = (d : Doing) → ((x : ℕ) → first_id d.clerk.ids ≡ Some x → images_held d.clerk.cache x ≡ Gone) → Each (λ w. T (does_wait w d.clerk)) d.clerk.waiting → NoneReady d.clerk
    → Each (λ w. T (does_wait w (evict d).clerk)) (evict d).clerk.waiting × NoneReady (evict d).clerk

-- All starts are at rest behind a clerk's step, where its own is, and the others were.
abbrev pub RestsBehind : Type 0
RestsBehind = (g : System) (c b : ℕ) (e : Doing) (γ : Ghost) (ls : List Shown) → g.running c ≡ Some b → γ.shown ≡ g.ghost.shown ++ ls
    → ((f a : ℕ) (k : Clerk) → (f == c) ≡ false → g.running f ≡ Some a → g.clerks f a ≡ Some k → IsAtRest g f k) → IsAtRest (doing_in c b e γ g) c e.clerk → AreAtRest (doing_in c b e γ g)

-- Whole functions that answer nothing.

-- a message that doesn't end the clerk's session, and answers no asking for ids
abbrev pub is_calm : Msg → Doing → Bool
is_calm (Ended s low mask) d = not (is_session s d.clerk.session)
is_calm (NoRoom s e ask live reserved) d = not (is_session ask d.clerk.asking)
is_calm _ d = true

pub record AreQuiet : Type 0 where
  pub prepared : (d : Doing) → IsQuiet d (prepared d)
  pub evict : (d : Doing) → IsQuiet d (evict d)
  pub push : (n : ℕ) (d : Doing) → IsQuiet d (keep_push n d)
  pub hello : (d : Doing) → IsQuiet d (hello d)
  pub resend : (k : Clerk) → IsQuiet (doing k) (resend k)
  pub taken : (m : Msg) (d : Doing) → T (is_calm m d) → IsQuiet d (taken m d)
  pub still : (d : Doing) → IsQuiet d d
  pub on : (d e f : Doing) → IsQuiet d e → IsQuiet e f → IsQuiet d f

-- sending again changes nothing that calls read, or recalls
abbrev pub ResendsAreStill : Type 0
ResendsAreStill = (k : Clerk) → IsStill (doing k) (resend k) × ((resend k).clerk.recalls ≡ k.recalls)

-- All facts behind the line of a waiting call, of a clerk that runs.
abbrev pub WaitsStand : Type 0
WaitsStand = (g : System) → AllAgree g → (c b l : ℕ) (cl : Call) → g.running c ≡ Some b → EachLine (Agrees l c cl) g.ghost.shown → AllAgree (lined g (show.Waits l c cl))

-- Of all lines: each number is answered at most once, and all lines of it are of the clerk and the call of that answer.
pub record IsAnsweredOnce (l c : ℕ) (cl : Call) (others : List Shown) : Type 0 where
  pub own : EachLine (Agrees l c cl) others
  pub once : EachLine (Unanswered l) others

abbrev pub AnsweredOnce : Type 0
AnsweredOnce = (ss : List Shown) → ArePlaceable [] ss → (before after : List Shown) (l c : ℕ) (cl : Call) (a : Answer) (op : Option ℕ) → before ++ show.Answered l c cl a op ∷ after ≡ ss → IsAnsweredOnce l c cl (before ++ after)
