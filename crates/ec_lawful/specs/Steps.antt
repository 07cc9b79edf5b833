-- What all facts of a system, taken together, keep at each step of a node: then they hold behind each event of a world that stands in a system of which they hold.
use Rattle.std.specs.Prelude.{◌≡◌, ◌≤◌, ◌<◌, ◌⊎◌, ◌+◌, ℕ, T, true, false, List, [], ◌∷◌, ◌++◌, Contains, Option, None, Some, is_some, ⊤}
use Rattle.std.specs.List.{list_any}
use Rattle.ec_plain.specs.BoundedCalls.{is_bounded}
use Rattle.ec_plain.specs.declared.call.Call.{Call}
use Rattle.ec_history.specs.Placing.{EachLine, is_numbered}
use Rattle.ec_history.specs.declared.shown.Shown.{Shown}
use Rattle.ec_history.specs.declared.shown.Shown.TheVariants.{Answered, Nothing, Stopped, Unsettled, Waits}
use Rattle.ec_wire.specs.declared.msg.Msg.{Msg}
use Rattle.ec_durable.specs.declared.record.Record.{Record}
use Rattle.ec_protocol.specs.Clerk.{Doing, begin, push, resend, start, take as take_message}
use Rattle.ec_protocol.specs.Server.{Serving, end, take}
use Rattle.ec_protocol.specs.Server as server
use Rattle.ec_protocol.specs.World.{Fate, committed, happen, is_answer_to, restart, stops_with, stops_without}
use Rattle.ec_protocol.specs.declared.world.Event.{Event}
use Rattle.ec_protocol.specs.declared.world.Event.TheVariants as event
use Rattle.ec_protocol.specs.declared.clerk.Clerk.{Clerk}
use Rattle.ec_protocol.specs.declared.clerk.Out.{Out}
use Rattle.ec_protocol.specs.declared.server.Server.{Server}
use Rattle.ec_protocol.specs.declared.world.World.{World}
use Rattle.ec_coherence.specs.System.{System, Ghost, at_session}
use Rattle.ec_coherence.specs.Steps.{Stands, call_of, doing_in, out_lines, serving_in}
use Rattle.ec_coherence.specs.CommitLaws.{AllAgree}
use Rattle.ec_coherence.specs.CommitLaws as commits
use Rattle.ec_coherence.specs.StandLaws.{crashed, lined, stopped}
use Rattle.ec_lawful.specs.Ties.{called, waiting}

-- A running clerk's step is refused, because a counter is spent, or the facts hold behind it, with the lines that it shows.
abbrev pub StepIsDone : (System → Type 0) → System → ℕ → ℕ → Doing → Type 0
StepIsDone F g c b d = T (is_some d.spent) ⊎ ((γ : Ghost) × (γ.shown ≡ g.ghost.shown ++ out_lines c d.outs g.calls) × F (doing_in c b d γ g))

-- The same of a server's step.
abbrev pub IsServed : (System → Type 0) → System → Serving → Type 0
IsServed F g t = T (is_some t.spent) ⊎ ((γ : Ghost) × commits.StepStands g t γ × F (serving_in t γ g))

-- a world stands in a system of which they hold
abbrev pub HoldsIn : (System → Type 0) → World → Type 0
HoldsIn F w = (g : System) × F g × Stands w g

-- a step that a running server makes of a message that was sent, or for the administrator
abbrev pub IsStep : System → Server → Serving → Type 0
IsStep g v t = ((c : ℕ) × (m : Msg) × Contains g.pool (c, m) × (t ≡ take c m v)) ⊎ ((c : ℕ) × (t ≡ end c v))

-- no line and no call has this number
pub record LineIsNew (g : System) (l : ℕ) : Type 0 where
  pub unshown : list_any (is_numbered l) g.ghost.shown ≡ false
  pub unused : (c n k : ℕ) (cl : Call) → call_of c n g.calls ≡ Some (k, cl) → k < l

-- so it is in a world
pub record IsNewIn (w : World) (l : ℕ) : Type 0 where
  pub unshown : list_any (is_numbered l) w.shown ≡ false
  pub unused : (c n k : ℕ) (cl : Call) → call_of c n w.calls ≡ Some (k, cl) → k < l

-- what is asked of an event: the line of a call is new, and the call is within its bounds
abbrev pub MayHappen : World → Event → Type 0
MayHappen w (event.Call c l cl) = IsNewIn w l × (c < 16) × T (is_bounded cl)
MayHappen w _ = ⊤

-- the clerk's next start runs
abbrev pub clerk_begun : ℕ → System → System
clerk_begun c g = record g { running = at_session c (Some (g.boots c + 1)) g.running; boots = at_session c (g.boots c + 1) g.boots }

-- the step of a call of a clerk, behind what came out of its start
abbrev pub calling : Call → List Out → Clerk → Doing
calling cl before k = record (begin cl k) { outs = before ++ (begin cl k).outs }

-- the call is under way, and its line shows that it waits where this step doesn't answer it
abbrev pub in_call : ℕ → ℕ → Call → Clerk → System → System
in_call c l cl k g = waiting c l cl (list_any (is_answer_to (k.calls + 1)) (begin cl k).outs) (called c (k.calls + 1) l cl g)

pub record StepsKeep (F : System → Type 0) : Type 0 where
  pub agrees : (g : System) → F g → AllAgree g
  -- a running server takes a message that was sent, or ends a session for the administrator
  pub takes : (g : System) (v : Server) → F g → g.server ≡ Some v → (c : ℕ) (m : Msg) → Contains g.pool (c, m) → IsServed F g (take c m v)
  pub ends : (g : System) (v : Server) → F g → g.server ≡ Some v → (c : ℕ) → IsServed F g (end c v)
  -- it stops, also in such a step, without its record or with it
  pub stops : (g : System) (v : Server) → F g → g.server ≡ Some v → F (stopped g)
  pub doubts : (w : World) (g : System) → F g → Stands w g → (v : Server) → g.server ≡ Some v → (t : Serving) → IsStep g v t → (r : Record) → t.rec ≡ Some r → t.spent ≡ None
      → HoldsIn F (committed stops_without r t w).world × HoldsIn F (committed stops_with r t w).world
  -- it starts again, or the disk stops in that
  pub restarts : (w : World) (g : System) → F g → Stands w g → w.server ≡ None → (server.start w.durable).spent ≡ None → (fate : Fate) → HoldsIn F (restart fate w).world
  -- a running clerk takes a message, is pushed, or sends again
  pub messages : (g : System) (c b : ℕ) (k : Clerk) → F g → g.running c ≡ Some b → g.clerks c b ≡ Some k → (m : Msg) → Contains g.pool (c, m) → StepIsDone F g c b (take_message m k)
  pub pushes : (g : System) (c b : ℕ) (k : Clerk) → F g → g.running c ≡ Some b → g.clerks c b ≡ Some k → (n : ℕ) → StepIsDone F g c b (push n k)
  pub resends : (g : System) (c b : ℕ) (k : Clerk) → F g → g.running c ≡ Some b → g.clerks c b ≡ Some k → StepIsDone F g c b (resend k)
  -- its call begins, or that of its next start
  pub calls : (g : System) (c b : ℕ) (k : Clerk) → F g → g.running c ≡ Some b → g.clerks c b ≡ Some k → (l : ℕ) (cl : Call) → LineIsNew g l → T (is_bounded cl) → StepIsDone F (in_call c l cl k g) c b (begin cl k)
  pub starts : (g : System) (c : ℕ) → F g → g.running c ≡ None → c < 16 → (l : ℕ) (cl : Call) → LineIsNew g l → T (is_bounded cl) → (start c (g.boots c + 1)).spent ≡ None
      → let d = start c (g.boots c + 1) in StepIsDone F (in_call c l cl d.clerk (clerk_begun c g)) c (g.boots c + 1) (calling cl d.outs d.clerk)
  -- it crashes
  pub crashes : (g : System) → F g → (c : ℕ) → F (crashed g c)
  -- lines that say nothing of nodes
  pub nothing : (g : System) → F g → F (lined g Nothing)
  pub unsettled : (g : System) → F g → F (lined g Unsettled)
