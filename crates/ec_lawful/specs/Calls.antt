-- The lines that a world shows in an event, and the calls that its lines and its calls under way are.
use Rattle.std.specs.Prelude.{◌≡◌, ℕ, List, ◌++◌, Some, ⊤}
use Rattle.ec_plain.specs.declared.call.Call.{Call}
use Rattle.ec_history.specs.Placing.{EachLine}
use Rattle.ec_history.specs.declared.shown.Shown.{Shown}
use Rattle.ec_history.specs.declared.shown.Shown.TheVariants.{Answered, Waits}
use Rattle.ec_base.specs.Tables.{Table}
use Rattle.ec_protocol.specs.World.{Moving}
use Rattle.ec_protocol.specs.declared.world.World.{World}
use Rattle.ec_coherence.specs.Steps.{call_of}

-- P holds of the line, the clerk and the text of each call that waits or is answered
abbrev pub IsOf : (ℕ → ℕ → Call → Type 0) → Shown → Type 0
IsOf P (Waits l c cl) = P l c cl
IsOf P (Answered l c cl a op) = P l c cl
IsOf P _ = ⊤

abbrev pub EachCall : (ℕ → ℕ → Call → Type 0) → Table (Table (ℕ × Call)) → Type 0
EachCall P calls = (c n l : ℕ) (cl : Call) → call_of c n calls ≡ Some (l, cl) → P l c cl

-- and of each call under way
pub record AreOf (P : ℕ → ℕ → Call → Type 0) (w : World) : Type 0 where
  pub calls : EachCall P w.calls
  pub shown : EachLine (IsOf P) w.shown

-- behind a step from w, the lines are those of the step behind those before it
pub record TellsLines (P : ℕ → ℕ → Call → Type 0) (w : World) (m : Moving) : Type 0 where
  pub lines : m.world.shown ≡ w.shown ++ m.shown
  pub of : AreOf P m.world
