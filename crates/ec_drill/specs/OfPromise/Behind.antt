-- Write-behind: what a run made durable is what its lines asked for, where no fault was made. It's told by the lines, the script and the volume of the disk alone.
use Rattle.std.specs.Prelude.{◌≡◌, ◌≤◌, ℕ, List, [], ◌++◌, length}
use Rattle.ec_base.specs.Limits.{clerk_count}
use Rattle.ec_base.specs.Tables.{once}
use Rattle.ec_volume.specs.Volume.{images}
use Rattle.ec_volume.specs.declared.image.Image.TheVariants.{Gone}
use Rattle.ec_history.specs.History.{Each}
use Rattle.ec_history.specs.Placing.{EachLine}
use Rattle.ec_history.specs.declared.shown.Shown.{Shown}
use Rattle.ec_durable.specs.WellFormed.{WellFormed}
use Rattle.ec_durable.specs.declared.state.Durable.{Durable}
use Rattle.ec_protocol.specs.Drill.{Fates, Read, drill, named_in}
use Rattle.ec_lawful.specs.Headline.{ArePieces, IsGreatest, Pieces, joined, placed_on}
use Rattle.ec_lawful.specs.Drills.{lines_in}
use Rattle.ec_lawful.specs.DrillRuns.{AreFit}
use Rattle.ec_drill.specs.Drill.{Outside, RanInPart, RanWhole}
use Rattle.ec_quiet.specs.OfDeliveries.Runs.{AllRun}
use Rattle.ec_complete.specs.Complete.{IsFaultlessRead}
use Rattle.ec_complete.specs.Pieces.{ArePiecesBehind}
use Rattle.ec_drill.specs.OfPromise.Left.{SaysWhy}
use Rattle.ec_drill.specs.OfPromise.Pieces.{first_lines, pieces_of}

-- The lines that a run over this script wrote, on a disk that stood for this state, in these pieces, one for each line carried out: each operation that a durable line
-- names lies in a closure that the line of the script asks for: of the object of its fsync, of the pushed operation, of all operations for a sync, or, where the
-- operations are another clerk's, of an object that its call touches.
pub record AreBehindOn (reads : List Read) (state : Durable) (pieces : Pieces) (shown : List Shown) : Type 0 where
  -- all but the last one, where that says why the run ended early
  pub told : List Shown
  pub last : List Shown
  pub written : shown ≡ told ++ last
  pub at_most_one : length last ≤ 1
  pub why : EachLine SaysWhy last
  pub in_pieces : told ≡ joined pieces
  -- the first line of each call stands in the piece of the call's line
  pub numbered : ArePieces 1 [] pieces
  -- a new object has the id that is the greatest one of the volume plus the place of its call's line
  pub top : ℕ
  pub greatest : IsGreatest (images state.volume) top
  pub behind : ArePiecesBehind (placed_on (images state.volume) top) (lines_in reads) [] pieces

-- So it is on a disk that tells its content, with a script of comments, calls and pushes: of a run that ended by itself, and of one that was cut off.
abbrev pub IsKeptBehind : Outside → List Read → Durable → Pieces → List Shown → Type 0
IsKeptBehind w reads state pieces shown = w.store.tells → Each IsFaultlessRead reads → ∥ AreBehindOn reads state pieces shown ∥₁

abbrev pub BehindIsKept : (most number : ℕ) (w : Outside) → RanWhole most number w → Type 0
BehindIsKept most number w r = IsKeptBehind w r.reads r.state (pieces_of r.reads r.fates r.state) r.shown

abbrev pub PartIsKept : (most : ℕ) (w : Outside) (last : List ℕ) → RanInPart most w last → Type 0
PartIsKept most w last r = IsKeptBehind w r.reads r.state (first_lines (length r.shown) (pieces_of r.reads r.fates r.state)) r.shown

-- Of the machine: the lines of each drill over such a script, of at most 65,536 lines and 16 clerks, on a disk that stands for a well-formed state with a slot for
-- each clerk, whose objects have ids from 1.
abbrev pub DrillsAreBehind : Type 0
DrillsAreBehind = (reads : List Read) (fates : List Fates) (d : Durable) → WellFormed d → length d.sessions ≡ clerk_count → images d.volume 0 ≡ Gone → length reads ≤ 65536 → length (once (named_in reads)) ≤ 16 → AreFit reads → Each IsFaultlessRead reads → Each AllRun fates
    → AreBehindOn reads d (pieces_of reads fates d) (drill reads fates d).0
