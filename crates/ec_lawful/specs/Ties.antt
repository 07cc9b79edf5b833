-- How a world stands in a system behind each event: the system behind it, by the step of the node that took it.
use Rattle.std.specs.Prelude.{◌≡◌, ℕ, Bool, true, false, List, [], ◌∷◌, ◌++◌, None, Some}
use Rattle.std.specs.List.{list_any}
use Rattle.ec_base.specs.Tables.{at, at_or, put}
use Rattle.ec_plain.specs.declared.call.Call.{Call}
use Rattle.ec_history.specs.declared.shown.Shown.{Shown}
use Rattle.ec_history.specs.declared.shown.Shown.TheVariants.{Nothing, Waits}
use Rattle.ec_wire.specs.declared.msg.Msg.{Msg}
use Rattle.ec_protocol.specs.Clerk.{Doing}
use Rattle.ec_protocol.specs.Server.{Serving}
use Rattle.ec_protocol.specs.World.{Moving, clerk_does, crash, is_answer_to, moving, nothing, runs, served, settled, show_waits, add_call, forget, stop_server}
use Rattle.ec_protocol.specs.declared.clerk.Clerk.{Clerk}
use Rattle.ec_protocol.specs.declared.clerk.Out.{Out}
use Rattle.ec_protocol.specs.declared.server.Server.{Server}
use Rattle.ec_protocol.specs.declared.world.World.{World}
use Rattle.ec_coherence.specs.System.{System, Ghost}
use Rattle.ec_coherence.specs.Steps.{Stands, Under, doing_in, out_lines, serving_in}
use Rattle.ec_coherence.specs.CommitLaws.{AllAgree}
use Rattle.ec_coherence.specs.StandLaws.{crashed, lined, stopped}

-- the server commits what it does in a step, and the disk runs
abbrev pub ServedIsSuch : Type 0
ServedIsSuch = (w : World) (g : System) → Stands w g → AllAgree g → (v : Server) → g.server ≡ Some v → (t : Serving) (γ : Ghost) → Under g t γ → t.spent ≡ None → Stands (served runs t w).world (serving_in t γ g)

-- a running clerk does a step, behind what was shown of its call
abbrev pub DoneIsSuch : Type 0
DoneIsSuch = (m : Moving) (g : System) → Stands m.world g → (c b : ℕ) → g.running c ≡ Some b → (d : Doing) (γ : Ghost) → d.spent ≡ None → γ.shown ≡ g.ghost.shown ++ out_lines c d.outs g.calls → Stands (clerk_does c d m).world (doing_in c b d γ g)

-- the call is under way, and a line shows that it waits, where it isn't answered in its own step
abbrev pub called : ℕ → ℕ → ℕ → Call → System → System
called c n l cl g = record g { calls = put c (put n (l, cl) (at_or [] c g.calls)) g.calls }

abbrev pub waiting : ℕ → ℕ → Call → Bool → System → System
waiting c l cl true g = g
waiting c l cl false g = lined g (Waits l c cl)

abbrev pub CalledIsSuch : Type 0
CalledIsSuch = (w : World) (g : System) → Stands w g → (c n l : ℕ) (cl : Call) (os : List Out) → Stands (show_waits c n l cl os (moving (add_call c n l cl w))).world (waiting c l cl (list_any (is_answer_to n) os) (called c n l cl g))

-- a start crashes, the server stops, a line says that nothing happened, and messages aren't pending or kept any more
abbrev pub CrashedIsSuch : Type 0
CrashedIsSuch = (w : World) (g : System) → Stands w g → (c : ℕ) (k : Clerk) → at c w.clerks ≡ Some k → Stands (crash c (Some k) w).world (crashed g c)

abbrev pub StoppedIsSuch : Type 0
StoppedIsSuch = (w : World) (g : System) → Stands w g → (v : Server) → w.server ≡ Some v → Stands (stop_server (Some v) w).world (stopped g)

abbrev pub NothingIsSuch : Type 0
NothingIsSuch = (w : World) (g : System) → Stands w g → Stands (nothing w).world (lined g Nothing)

abbrev pub SettledIsSuch : Type 0
SettledIsSuch = (w : World) (g : System) → Stands w g → (n : ℕ) → Stands (settled n w) g

abbrev pub ForgottenIsSuch : Type 0
ForgottenIsSuch = (w : World) (g : System) → Stands w g → Stands (forget w) g
