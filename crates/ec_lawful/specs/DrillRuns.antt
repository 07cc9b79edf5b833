-- A run over the lines of a script, and what holds of its end.
use Rattle.std.specs.Prelude.{◌≡◌, ◌<◌, ◌≤◌, ◌-◌, ◌+◌, ℕ, T, List, ◌++◌, length, take, slice_get, Some, is_some, ⊤}
use Rattle.ec_plain.specs.BoundedCalls.{is_bounded}
use Rattle.ec_plain.specs.declared.call.Call.{Call}
use Rattle.ec_history.specs.History.{Each}
use Rattle.ec_protocol.specs.Drill.{Ending, Ran, Read, IsSpent, reads}
use Rattle.ec_protocol.specs.declared.script.Line.TheVariants as line
use Rattle.ec_protocol.specs.declared.world.World.{World}
use Rattle.ec_coherence.specs.System.{System}
use Rattle.ec_lawful.specs.Headline.{Lines, Pieces, joined}
use Rattle.ec_lawful.specs.Calls.{AreOf}
use Rattle.ec_lawful.specs.Steps.{HoldsIn}
use Rattle.ec_lawful.specs.Drills.{lines_in}

-- the line of the script with this number is this call of this clerk
abbrev pub IsCallIn : Lines → ℕ → ℕ → Call → Type 0
IsCallIn lines l c cl = (1 ≤ l) × (l ≤ length lines) × (slice_get lines (l - 1) ≡ Some (line.Call c cl))

-- each call of the script is of one of sixteen clerks, and within its bounds
abbrev pub IsFit : Read → Type 0
IsFit (reads (line.Call c cl) column) = (c < 16) × T (is_bounded cl)
IsFit _ = ⊤

abbrev pub AreFit : List Read → Type 0
AreFit ls = Each IsFit ls

-- A world behind these lines of the script, which gave these pieces.
pub record Sofar (F : System → Type 0) (lines : Lines) (pieces : Pieces) (w : World) : Type 0 where
  pub holds : HoldsIn F w
  pub of : AreOf (IsCallIn lines) w
  pub shown : w.shown ≡ joined pieces

-- The end of a run over the rest of the script, which began behind these: its first lines were carried out, with the pieces that they gave.
pub record Comes (F : System → Type 0) (lines : Lines) (pieces : Pieces) (ls : List Read) (r : Ran) : Type 0 where
  pub more : Lines
  pub front : more ≡ take (length more) (lines_in ls)
  pub sofar : Sofar F (lines ++ more) (pieces ++ r.pieces) r.world
  -- one piece for each, and perhaps one for a line that doesn't fit
  pub counted : length r.pieces ≤ length more + 1

-- the run didn't end by a spent counter
abbrev pub IsUnspent : Ending → Type 0
IsUnspent (IsSpent n) = ⊥
IsUnspent _ = ⊤

-- The same behind the restart at the end, which gives a piece of its own.
pub record Closed (F : System → Type 0) (lines : Lines) (pieces : Pieces) (ls : List Read) (r : Ran) : Type 0 where
  pub more : Lines
  pub front : more ≡ take (length more) (lines_in ls)
  pub sofar : Sofar F (lines ++ more) (pieces ++ r.pieces) r.world
  pub counted : length r.pieces ≤ length more + 2
  -- and the server runs, but behind a spent counter
  pub up : IsUnspent r.ending → T (is_some r.world.server)
