-- What is proved of ends of sessions, as contracts name it: behind each event no more of them are shown than crashes and ends allow for.
use Rattle.std.specs.Prelude.{◌≡◌, ◌≤◌, ◌+◌, ℕ, true, List, [], length, None, Some}
use Rattle.std.specs.List.{list_any}
use Rattle.ec_history.specs.Placing.{is_numbered}
use Rattle.ec_history.specs.declared.shown.Shown.TheVariants.{Stopped}
use Rattle.ec_durable.specs.declared.record.Record.{Record}
use Rattle.ec_durable.specs.declared.state.Durable.{Durable}
use Rattle.ec_plain.specs.declared.call.Call.{Call}
use Rattle.ec_wire.specs.declared.msg.Msg.{Msg}
use Rattle.ec_protocol.specs.Clerk.{begin, push, resend, start as start_clerk, take as take_message}
use Rattle.ec_protocol.specs.declared.clerk.Clerk.{Clerk}
use Rattle.ec_protocol.specs.Drill.{Ran, Read}
use Rattle.ec_protocol.specs.Server.{end, start, take}
use Rattle.ec_protocol.specs.declared.server.Server.{Server}
use Rattle.ec_protocol.specs.World.{Fate, happen, restart}
use Rattle.ec_protocol.specs.declared.world.Event.{Event}
use Rattle.ec_protocol.specs.declared.world.World.{World}
use Rattle.ec_coherence.specs.System.{System, Ghost}
use Rattle.ec_coherence.specs.Steps.{Stands, call_of, doing_in, serving_in}
use Rattle.ec_coherence.specs.CommitLaws.{AllAgree}
use Rattle.ec_coherence.specs.StandLaws.{lined}
use Rattle.ec_lawful.specs.Doubts.{ComesFrom, DoubtAgrees, doubted}
use Rattle.ec_lawful.specs.Founds.{Makes, bare, found_ghost, started_in, with_found}
use Rattle.ec_lawful.specs.Olds.{opened_in}
use Rattle.ec_lawful.specs.Headline.{AreEndsAsked, ArePieces}
use Rattle.ec_lawful.specs.DrillRuns.{Closed}
use Rattle.ec_lawful.specs.Steps.{HoldsIn, clerk_begun, calling, in_call}
use Rattle.ec_lawful.specs.Asked.{AsksAgree, EndsAsked, ended_by, with_event}

-- a world stands in a system of which all facts and these hold
abbrev pub StandsAsked : (ℕ → ℕ) → System → Type 0
StandsAsked first g = AllAgree g × AsksAgree first g

-- behind each event without a fault, for each fate of the disk
abbrev pub EventsAsk : Type 0
EventsAsk = (first asked : ℕ → ℕ) (fate : Fate) (e : Event) (w : World) → HoldsIn (StandsAsked first) w → EndsAsked first asked w → (happen fate e w).fault ≡ None → EndsAsked first (with_event e asked) (happen fate e w).world

-- and behind a restart
abbrev pub RestartsAsk : Type 0
RestartsAsk = (first asked : ℕ → ℕ) (fate : Fate) (w : World) → EndsAsked first asked w → (restart fate w).fault ≡ None → EndsAsked first asked (restart fate w).world

-- so the lines show no more of them
abbrev pub AskedShow : Type 0
AskedShow = (first asked : ℕ → ℕ) (w : World) → EndsAsked first asked w → (c : ℕ) → ended_by c w.shown ≤ asked c

-- Before anything happened none are asked for.
pub record IsFresh (g : System) : Type 0 where
  pub idle : (c : ℕ) → g.running c ≡ None
  pub boots : (c : ℕ) → g.boots c ≡ g.first_boot c
  pub pool : g.pool ≡ []
  pub unshown : g.unshown ≡ None
  pub shown : g.ghost.shown ≡ []

abbrev pub OpeningAsks : Type 0
OpeningAsks = (w : World) (g : System) → Stands w g → IsFresh g → AsksAgree g.first_boot g × EndsAsked g.first_boot (λ c. 0) w

-- so it is over any state that a disk stands for, whatever sessions of earlier runs it has
abbrev pub OpenedIsFresh : Type 0
OpenedIsFresh = (d : Durable) → IsFresh (opened_in d)

-- The facts of a system.

-- what other facts keep at a stop with a record in doubt, and at a restart
pub record RestsKeep (F : System → Type 0) : Type 0 where
  pub in_doubt : (g : System) → F g → DoubtAgrees g
  pub doubts : (g : System) (v : Server) → F g → g.server ≡ Some v → (r : Record) → ComesFrom g r → AllAgree (doubted g r) → F (doubted g r)
  pub lines : (g : System) → F g → F (lined g Stopped)
  pub finds : (g : System) → F g → g.server ≡ None → (r : Record) → g.unshown ≡ Some r → Makes (bare g) r (found_ghost g r) → AllAgree (with_found g r) → F (with_found g r)
  pub starts : (g : System) → F g → g.server ≡ None → g.unshown ≡ None → (e : ℕ) → AllAgree (started_in g (start (record g.durable { epoch = e }))) → F (started_in g (start (record g.durable { epoch = e })))

-- Each step of a node keeps them, whatever it makes of the ghosts: nobody says goodbye, and a start stands.
pub record StepsStay (first : ℕ → ℕ) (g : System) : Type 0 where
  pub takes : (c : ℕ) (m : Msg) (v : Server) (γ : Ghost) → AsksAgree first (serving_in (take c m v) γ g)
  pub ends : (c : ℕ) (v : Server) (γ : Ghost) → AsksAgree first (serving_in (end c v) γ g)
  pub messages : (c b : ℕ) (m : Msg) (k : Clerk) (γ : Ghost) → AsksAgree first (doing_in c b (take_message m k) γ g)
  pub pushes : (c b n : ℕ) (k : Clerk) (γ : Ghost) → AsksAgree first (doing_in c b (push n k) γ g)
  pub resends : (c b : ℕ) (k : Clerk) (γ : Ghost) → AsksAgree first (doing_in c b (resend k) γ g)
  pub calls : (c b l : ℕ) (cl : Call) (k : Clerk) (γ : Ghost) → AsksAgree first (doing_in c b (begin cl k) γ (in_call c l cl k g))
  pub starts : (c l : ℕ) (cl : Call) (γ : Ghost) → let d = start_clerk c (g.boots c + 1) in AsksAgree first (doing_in c (g.boots c + 1) (calling cl d.outs d.clerk) γ (in_call c l cl d.clerk (clerk_begun c g)))
  -- and so does whatever leaves boots, starts and messages
  pub others : (h : System) → h.first_boot ≡ g.first_boot → h.boots ≡ g.boots → h.clerks ≡ g.clerks → h.pool ≡ g.pool → AsksAgree first h

abbrev pub AsksStay : Type 0
AsksStay = (first : ℕ → ℕ) (g : System) → AsksAgree first g → StepsStay first g

-- each call under way has its line
abbrev pub CallsLined : (System → Type 0) → Type 0
CallsLined F = (g : System) → F g → (c n l : ℕ) (cl : Call) → call_of c n g.calls ≡ Some (l, cl) → list_any (is_numbered l) g.ghost.shown ≡ true

-- A whole run over the lines of a script: it is closed, with these facts, and in each front of its pieces no more sessions end than the lines carried out ask for.
pub record RunAsks (F : System → Type 0) (ls : List Read) (r : Ran) : Type 0 where
  pub closed : Closed F [] [] ls r
  pub asked : AreEndsAsked closed.more r.pieces
  -- the first line of each call stands in the piece of its number
  pub numbered : ArePieces 1 [] r.pieces
  -- each line that was carried out gave a piece
  pub least : length closed.more ≤ length r.pieces
