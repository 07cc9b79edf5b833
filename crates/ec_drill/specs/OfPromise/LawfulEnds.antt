-- What a drill promises of the lines that it wrote, by its status.
use Rattle.std.specs.Prelude.{◌≡◌, ◌≤◌, ◌+◌, ℕ, T, List, [], ◌++◌, length, take, Ok, ⊤}
use Rattle.std.specs.List.{list_all}
use Rattle.std.proofs.Common.{inl, inr}
use Rattle.ec_volume.specs.Volume.{Fits, WellFormed, images}
use Rattle.ec_history.specs.History.{Base, Each, kept, updates}
use Rattle.ec_history.specs.Lines.{IsStored}
use Rattle.ec_history.specs.Placing.{EachLine, place}
use Rattle.ec_history.specs.declared.shown.Shown.{Shown}
use Rattle.ec_base.specs.Limits.{clerk_count}
use Rattle.ec_volume.specs.declared.image.Image.TheVariants.{Gone}
use Rattle.ec_durable.specs.WellFormed as states
use Rattle.ec_durable.specs.declared.state.Durable.{Durable}
use Rattle.ec_protocol.specs.Drill.{Read, Fates, bound, drill}
use Rattle.ec_protocol.specs.World.{open_world}
use Rattle.ec_protocol.specs.declared.world.World.{World}
use Rattle.ec_lawful.specs.Headline.{AreEndsAsked, ArePieces, FrontsAreLawful, InScript, IsGreatest, Lines, Pieces, joined, placed_on}
use Rattle.ec_lawful.specs.Drills.{lines_in}
use Rattle.ec_lawful.specs.DrillRuns.{AreFit}
use Rattle.ec_drill.specs.OfPromise.Behind.{BehindIsKept, PartIsKept}
use Rattle.ec_complete.specs.Complete.{IsComplete}
use Rattle.ec_complete.specs.PlainScripts.{IsPlainScript}
use Rattle.ec_drill.specs.OfPromise.Pieces.{first_lines, pieces_of}
use Rattle.ec_drill.specs.OfPromise.Spared.{IsNoLoss, spares}
use Rattle.ec_drill.specs.OfPromise.Left.{EndsStored, IsStoredIn, LeavesStored, SaysWhy}
use Rattle.ec_drill.specs.Drill.{Outside, Drilled, IsCut, IsCutClean, IsToldAll, RanWhole, RanInPart, state_after}
use Rattle.ec_drill.specs.Left.{Moment}
use Rattle.ec_drill.specs.declared.status.Status.{Status}
use Rattle.ec_drill.specs.declared.status.Status.TheVariants as status
use Rattle.ec_drill.specs.OfPromise.Promise.{AreInOrder}

-- histories on the volume of this state, in which a new object has the id that is this one plus the place of its call's line
abbrev pub base_on : Durable → ℕ → Base
base_on state top = placed_on (images state.volume) top

-- a well-formed state, with a slot for each clerk, whose objects have ids from 1
pub record WholeState (d : Durable) : Type 0 where
  pub formed : states.WellFormed d
  pub slots : length d.sessions ≡ clerk_count
  pub from_one : images d.volume 0 ≡ Gone

-- The lines that a run over this script wrote, on a disk that stood for this state, in these pieces: one for each line carried out, and perhaps one for the line
-- that ended it, and for the restart at the end.
pub record AreLawfulOn (reads : List Read) (state : Durable) (pieces : Pieces) (shown : List Shown) : Type 0 where
  -- all but the last one, where that says why the run ended early
  pub told : List Shown
  pub last : List Shown
  pub written : shown ≡ told ++ last
  pub at_most_one : length last ≤ 1
  pub why : EachLine SaysWhy last
  -- each call in them is that of its line in the script, of which the first ones were carried out
  pub lines : Lines
  pub front : lines ≡ take (length lines) (lines_in reads)
  pub own_calls : EachLine (InScript lines) told
  pub in_pieces : told ≡ joined pieces
  pub counted : length pieces ≤ length lines + 2
  -- the first line of each call stands in the piece of the call's line
  pub numbered : ArePieces 1 [] pieces
  -- no session ends but by a crash or an end: up to each line no more of a clerk's sessions ended than such lines were carried out
  pub ends : AreEndsAsked lines pieces
  -- so nothing is lost where none of the lines of these pieces crashes a clerk or ends a session
  pub spared : T (list_all spares (take (length pieces) lines)) → Each IsNoLoss (place told)
  -- each front of them has a history, which is legal on the volume at the beginning; what an fsync covers was durable; a new object has the id that is the
  -- greatest one of the volume plus the place of its call's line
  pub top : ℕ
  pub greatest : IsGreatest (images state.volume) top
  pub fronts : FrontsAreLawful (base_on state top) state.max_objects told

-- Those of a run that ended by itself.
pub record AreWholeOn (reads : List Read) (state : Durable) (pieces : Pieces) (shown : List Shown) : Type 0 where
  pub lawful : AreLawfulOn reads state pieces shown
  -- at the end each update that is kept fits in turn
  pub fit : Fits (images state.volume) (updates (kept (base_on state lawful.top) (place lawful.told)))

-- And the volume on the disk behind the run is well formed, and has the shape that the operations leave which durable lines name, in the history's order.
pub record AreStoredOn (reads : List Read) (state end : Durable) (pieces : Pieces) (shown : List Shown) : Type 0 where
  pub whole : AreWholeOn reads state pieces shown
  pub formed : WellFormed (images end.volume)
  pub stored : IsStored (base_on state whole.lawful.top) whole.lawful.told (images end.volume)

-- Where it's known what the disk did: of a run that ended by itself, also of one that a spent counter ended, and of one that was cut off. What the last two left
-- of the volume is told of a disk that tells its content.
abbrev pub WholeIsLawful : (most number : ℕ) (w : Outside) → RanWhole most number w → Type 0
WholeIsLawful most number w r = IsToldAll w r.reads → ∥ AreStoredOn r.reads r.state (state_after r.reads r.fates r.state) (pieces_of r.reads r.fates r.state) r.shown × AreInOrder r.reads r.fates r.state ∥₁

abbrev pub SpentIsLawful : (most number : ℕ) (w : Outside) → RanWhole most number w → Type 0
SpentIsLawful most number w r = IsToldAll w r.reads → ∥ AreWholeOn r.reads r.state (pieces_of r.reads r.fates r.state) r.shown × EndsStored r.reads r.fates r.state r.shown × AreInOrder r.reads r.fates r.state ∥₁

-- The disk tells its content, of which it had none.
pub record HasNewDisk (w : Outside) : Type 0 where
  pub tells : w.store.tells
  pub empty : length w.store.disk.gives ≡ 0

-- Of a run that ended by itself on a new disk: where its script is plain, which its lines alone tell, its status is 0, no line says that messages didn't settle,
-- and its answers are those of one plain volume to all calls of the script, so that none waits.
abbrev pub PlainIsComplete : (most number : ℕ) (w : Outside) → RanWhole most number w → Type 0
PlainIsComplete most number w r = HasNewDisk w → IsPlainScript most r.reads → ∥ (number ≡ 0) × IsComplete (images r.state.volume) (lines_in r.reads) r.shown number ∥₁

-- Of a run that was cut off, of whose lines the first ones were written.
abbrev pub PartIsLawful : (most : ℕ) (w : Outside) (last : List ℕ) → RanInPart most w last → Type 0
PartIsLawful most w last r =
    (IsToldAll w r.reads → ∥ AreLawfulOn r.reads r.state (first_lines (length r.shown) (pieces_of r.reads r.fates r.state)) r.shown × AreInOrder r.reads r.fates r.state ∥₁)
    × (w.store.tells → ∥ LeavesStored w.store.disk_after r.reads r.fates r.state (open_world r.state) r.shown ∥₁)

abbrev pub CutIsLawful : (most : ℕ) (w : Outside) → IsCut most w → Type 0
CutIsLawful most w (inl part) = PartIsLawful most w part.0 part.1 × PartIsKept most w part.0 part.1
CutIsLawful most w (inr refused) = ⊤

abbrev pub CleanIsLawful : (most : ℕ) (w : Outside) → IsCutClean most w → Type 0
CleanIsLawful most w (inl part) = PartIsLawful most w [] part × PartIsKept most w [] part
CleanIsLawful most w (inr silent) = ⊤

-- Of each status, of which the drill did this: the lines written are lawful; where no fault was made, what they made durable is what the script's lines asked for, and those of
-- a plain script are complete.
abbrev pub IsLawful : (most : ℕ) (st : Status) (w : Outside) → Drilled most st w → Type 0
IsLawful most status.Done w d = WholeIsLawful most 0 w d × BehindIsKept most 0 w d × PlainIsComplete most 0 w d
IsLawful most status.BadLine w d = WholeIsLawful most 3 w d × BehindIsKept most 3 w d × PlainIsComplete most 3 w d
IsLawful most status.Limit w (inl tells) = ⊤
IsLawful most status.Limit w (inr d) = WholeIsLawful most 11 w d × BehindIsKept most 11 w d × PlainIsComplete most 11 w d
IsLawful most status.Spent w d = SpentIsLawful most 15 w d × BehindIsKept most 15 w d × PlainIsComplete most 15 w d
IsLawful most status.SinkFault w d = CutIsLawful most w d.1
IsLawful most status.DiskFault w d = CleanIsLawful most w d.1
IsLawful most status.NoMemory w (inl cut) = CutIsLawful most w cut
IsLawful most status.NoMemory w (inr silent) = ⊤
IsLawful most status.Usage w d = ⊤
IsLawful most status.SourceFault w d = ⊤
IsLawful most status.BadDisk w d = ⊤

-- Of the machine: the lines of each drill over a script, on a disk that stands for a well-formed state, are lawful, and stored where no spent counter ended it.
abbrev pub DrillsAreLawful : Type 0
DrillsAreLawful = (reads : List Read) (fates : List Fates) (d : Durable) → WholeState d → AreFit reads
    → AreWholeOn reads d (pieces_of reads fates d) (drill reads fates d).0 × (((drill reads fates d).1 ≡ 15 → ⊥) → AreStoredOn reads d (state_after reads fates d) (pieces_of reads fates d) (drill reads fates d).0) × AreInOrder reads fates d

-- And at each moment of its run.
abbrev pub MomentsAreStored : Type 0
MomentsAreStored = (reads : List Read) (fates : List Fates) (d : Durable) → WholeState d → AreFit reads
    → (start : World) → open_world d ≡ Ok start → (w : World) (shown : List Shown) → Moment (bound reads) reads fates start w shown → IsStoredIn d w shown
