-- Runs over scripts with leases: their lines without `held` are lawful, and legal in the order in which they were printed.
use Rattle.std.specs.Prelude.{◌≡◌, ◌<◌, ◌≤◌, ◌-◌, ◌+◌, ℕ, Some, slice_get, T, List, [], ◌++◌, length, map, Ok, ⊤}
use Rattle.ec_plain.specs.BoundedCalls.{is_bounded}
use Rattle.ec_plain.specs.declared.call.Call.{Call}
use Rattle.ec_volume.specs.Volume.{Images, images}
use Rattle.ec_volume.specs.declared.image.Image.TheVariants.{Gone}
use Rattle.ec_history.specs.History.{Each}
use Rattle.ec_history.specs.Legal.{IsLegal}
use Rattle.ec_history.specs.Placing.{EachLine}
use Rattle.ec_history.specs.declared.shown.Shown.{Shown}
use Rattle.ec_durable.specs.WellFormed.{WellFormed}
use Rattle.ec_durable.specs.declared.state.Durable.{Durable}
use Rattle.ec_protocol.specs.Drill.{Fates}
use Rattle.ec_protocol.specs.World.{open_world}
use Rattle.ec_protocol.specs.declared.script.Line.{Line as Scripted}
use Rattle.ec_protocol.specs.declared.script.Line.TheVariants as line
use Rattle.ec_protocol.specs.declared.world.World.{World}
use Rattle.ec_lawful.specs.Calls.{IsOf}
use Rattle.ec_lawful.specs.Headline.{AreEndsAsked, ArePieces, FrontsAreLawful, IsGreatest, placed_on, joined as joined_pieces}
use Rattle.ec_lease_machine.specs.Drill.{LeaseRead, joined_lease, reads}
use Rattle.ec_lease_machine.specs.OfLeaseWorlds.Lines.{lease_run, unheld}
use Rattle.ec_lease_machine.specs.declared.script.LeaseLine.TheVariants as lines
use Rattle.ec_lease_machine.specs.declared.world.LeaseShown.{LeaseShown}
use Rattle.ec_history.specs.OfLaws.OfPrinted.Printed.{printed}

-- a call of the script is of one of sixteen clerks, and within its bounds
abbrev pub IsFit : LeaseRead → Type 0
IsFit (reads (lines.Drill (line.Call c cl)) column) = (c < 16) × T (is_bounded cl)
IsFit _ = ⊤

-- the line of the script with this number is this call of this clerk
abbrev pub IsCallIn : List LeaseRead → ℕ → ℕ → Call → Type 0
IsCallIn script l c cl = (1 ≤ l) × (column : ℕ) × (slice_get script (l - 1) ≡ Some (reads (lines.Drill (line.Call c cl)) column))

-- a line of the script as a drill's: one of clocks and leases, or one that doesn't fit, stands as a comment
abbrev pub as_line : LeaseRead → Scripted
as_line (reads (lines.Drill l) column) = l
as_line _ = line.Comment

-- No more sessions end than the lines of the script allow for, up to each of them; the first line of each call stands in the piece of the call's line.
pub record AreAskedBy (script : List LeaseRead) (pieces : List (List LeaseShown)) : Type 0 where
  pub fronts : AreEndsAsked (map as_line script) (map unheld pieces)
  pub numbered : ArePieces 1 [] (map unheld pieces)
  pub counted : length (map unheld pieces) ≤ length script + 1
  pub joined : unheld (joined_lease pieces) ≡ joined_pieces (map unheld pieces)

-- Each line of a call is of one of the script. The lines are lawful over the volume, and each front of them is legal in printed order.
pub record AreLeased (script : List LeaseRead) (v : Images) (most : ℕ) (ss : List Shown) : Type 0 where
  pub own : EachLine (IsOf (IsCallIn script)) ss
  pub top : ℕ
  pub greatest : IsGreatest v top
  pub lawful : FrontsAreLawful (placed_on v top) most ss
  pub legal : (front rest : List Shown) → front ++ rest ≡ ss → IsLegal (placed_on v top) most (printed front)

-- So it is of each run over a well-formed state with a slot for each clerk, and without an object of the id 0, whatever the disk does and whatever
-- clocks show, to its end or to a fault.
abbrev pub LeaseRunsAreLeased : Type 0
LeaseRunsAreLeased = (d : Durable) → WellFormed d → length d.sessions ≡ 16 → images d.volume 0 ≡ Gone → (w : World) → open_world d ≡ Ok w → (l e : ℕ) (ls : List LeaseRead) (fs : List Fates) → Each IsFit ls
    → AreLeased ls (images d.volume) d.max_objects (unheld (joined_lease (lease_run l e ls fs w).pieces))
