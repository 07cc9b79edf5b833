-- No public clause cites this module: it says what the private steps of a run do.
use Rattle.std.specs.Prelude.{◌≡◌, ◌⊎◌, ◌<◌, ◌≤◌, ◌+◌, ℕ, List, [], ◌∷◌, ◌++◌, length, Option, Some, None, Result, Ok, Err, ⊤}
use Rattle.std.specs.Io.KnownBytes.{Appends}
use Rattle.ec_base.specs.Outside.{Rose}
use Rattle.ec_disk.specs.Disk.{View, Counts}
use Rattle.ec_stands.specs.Stands.{StandsFor}
use Rattle.ec_history.specs.declared.shown.Shown.{Shown}
use Rattle.ec_protocol.specs.World.{Fate, runs, stops_without, stops_with, Moving, pending, forget}
use Rattle.ec_protocol.specs.Drill.{Fates, Read, reads, Ran, settle, carry_out, run_from, joined, close, last_line}
use Rattle.ec_protocol.specs.Drill as machine
use Rattle.ec_protocol.specs.declared.script.Line.{Line}
use Rattle.ec_protocol.specs.declared.world.World.{World}
use Rattle.ec_protocol.specs.declared.world.WorldFault.{WorldFault}
use Rattle.ec_protocol.specs.declared.world.WorldFault.TheVariants as fault
use Rattle.ec_words.specs.OfText.Lines.{shown_text, text_of}
use Rattle.ec_world.specs.StepEnds.{HasStopped}
use Rattle.ec_drill.specs.Arms.{RunArms}
use Rattle.ec_drill.specs.Fates.{AllRun, IsKnown}
use Rattle.ec_drill.specs.RunFates.{AreOf}
use Rattle.ec_drill.specs.Cuts.{IsCutFront, IsPartOf}
use Rattle.ec_drill.specs.Left.{EachLeft, IsOfMoment}
use Rattle.ec_drill.specs.declared.writing.Cut.{Cut}
use Rattle.ec_drill.specs.declared.writing.Cut.TheVariants as cut
use Rattle.ec_drill.specs.declared.running.Ending.{Ending}
use Rattle.ec_drill.specs.declared.running.Ending.TheVariants as ending

-- Steps of the world.

-- the machine's faults
abbrev pub IsSeen : WorldFault → Type 0
IsSeen (fault.BadDisk p) = ⊥
IsSeen fault.DiskFailed = ⊥
IsSeen (fault.Spent n) = ⊤
IsSeen fault.NoSuchOp = ⊤
IsSeen fault.NoSuchMsg = ⊤
IsSeen fault.NoMemory = ⊥

-- a step under way that has shown these lines
abbrev pub going : World → List Shown → Moving
going w shown = record { world = w; shown = shown; fault = None }

-- What the machine does comes to this world, these lines and this fault.
abbrev pub ComesTo : {X : Type 0} → Result X WorldFault → Moving → World → List Shown → Type 0
ComesTo (Ok x) m w shown = m ≡ going w shown
ComesTo (Err f) m w shown = IsSeen f → m ≡ record (going w shown) { fault = Some f }

-- a fact that holds but behind a fault which the machine doesn't have
abbrev pub StaysBut : {X : Type 0} → Result X WorldFault → Type 0 → Type 0
StaysBut (Ok x) P = P
StaysBut (Err f) P = IsSeen f → P

-- Counts don't fall, and faults rose where a call answers so. What stops a disk doesn't fail it.
pub record IsLater (old new : Counts) (Failing : Type 0) : Type 0 where
  pub faults : old.faults ≤ new.faults
  pub stops : old.stops ≤ new.stops
  pub failed : Failing → Rose old.faults new.faults

-- What the disk did in a step, where it was stopped. Of one that runs nothing is said: it may be one that a fault cut off.
abbrev pub Fares : Fate → Counts → Counts → Type 0
Fares runs old new = Unit {0}
Fares stops_without old new = HasStopped old new
Fares stops_with old new = HasStopped old new

-- what the disk did in the steps of a line
abbrev pub AreOfLine : Fates → Counts → Counts → Type 0
AreOfLine fates old new = AllRun fates ⊎ Rose old.stops new.stops

-- What is left of the disk where a line is cut off.

-- an image stands for the state behind so many of the messages that are delivered after a line's event
pub record IsSettling (k : ℕ) (fates : Fates) (m : Moving) (image : List ℕ) : Type 0 where
  pub count : ℕ
  pub most : count ≤ k
  pub stands : StandsFor image (settle count fates m).world.durable

-- or for the one before the line
pub data IsCarrying (k : ℕ) (fates : Fates) (number : ℕ) (l : Line) (w : World) (image : List ℕ) : Type 0 where
  before_line : StandsFor image w.durable → IsCarrying k fates number l w image
  behind_some : (j : ℕ) → j ≤ k → StandsFor image (carry_out j fates number l w).world.durable → IsCarrying k fates number l w image

-- The same of a line of which these lines were written.
pub data IsInLine (k number : ℕ) (r : Read) (w : World) (fates : Fates) (written : List Shown) (image : List ℕ) : Type 0 where
  none_shown : written ≡ [] → StandsFor image w.durable → IsInLine k number r w fates written image
  some_shown : (l : Line) (column : ℕ) → r ≡ reads l column → (j : ℕ) → j ≤ k → (rest : List Shown) → (carry_out j fates number l w).shown ≡ written ++ rest
      → StandsFor image (carry_out j fates number l w).world.durable → IsInLine k number r w fates written image

-- Lines written.

-- why no more of this text was written than these bytes
abbrev pub CutBy : Cut → List ℕ → List ℕ → ℕ → ℕ → Type 0
CutBy cut.Disk text last before now = ⊥
CutBy cut.Sink text last before now = Rose before now × IsCutFront text last
CutBy cut.NoMemory text last before now = (last ≡ []) ⊎ IsCutFront text last

pub record CutText (c : Cut) (text : List ℕ) (held now : Option (List ℕ)) (before later : ℕ) : Type 0 where
  pub last : List ℕ
  pub bytes : Appends held now last
  pub why : CutBy c text last before later

-- of these lines some were written, and a part of the next one
pub record CutLines (c : Cut) (lines : List Shown) (held now : Option (List ℕ)) (before later : ℕ) : Type 0 where
  pub written : List Shown
  pub first : Shown
  pub more : List Shown
  pub front : lines ≡ written ++ first ∷ more
  pub last : List ℕ
  pub bytes : Appends held now (text_of written ++ last)
  pub why : CutBy c (shown_text first) last before later

-- Runs.

-- the machine's ending
abbrev pub ending_of : Ending → machine.Ending
ending_of ending.Done = machine.Done
ending_of (ending.BadLine number column) = machine.BadLine number column
ending_of (ending.TooMany n) = machine.TooMany n
ending_of (ending.Spent n) = machine.IsSpent n

-- these pieces before those of a run
abbrev pub behind_pieces : List (List Shown) → Ran → Ran
behind_pieces pieces r = record r { pieces = pieces ++ r.pieces }

-- The lines of a run that are still ahead, from this number on, and what was done and written before. Any other lines could be ahead too.
pub record Sofar (tells : Type 0) (before now k : ℕ) (armed here : Option ℕ) (all : List Read) (start : World) (number : ℕ) (ahead : List Read) (w : World) (held mid : Option (List ℕ)) : Type 0 where
  pub done : List Read
  pub split : done ++ ahead ≡ all
  pub counted : number ≡ length done + 1
  pub fates : List Fates
  pub each : length fates ≡ length done
  pub are : AreOf fates before now
  pub pieces : List (List Shown)
  pub run : IsKnown tells before now → (others : List Read) (more : List Fates) → run_from k 1 (done ++ others) (fates ++ more) start ≡ behind_pieces pieces (run_from k number others more w)
  pub arms : IsKnown tells before now → (others : List Read) (more : List Fates) → RunArms k number others more w here → RunArms k 1 (done ++ others) (fates ++ more) start armed
  pub bytes : Appends held mid (text_of (joined pieces))

-- A run that ended, with all its pieces written.
pub record Ended (tells : Type 0) (before now k : ℕ) (armed : Option ℕ) (all : List Read) (start : World) (end : machine.Ending) (w : World) (held mid : Option (List ℕ)) : Type 0 where
  pub fates : List Fates
  pub are : AreOf fates before now
  pub pieces : List (List Shown)
  pub run : IsKnown tells before now → run_from k 1 all fates start ≡ record { world = w; pieces = pieces; ending = end }
  pub arms : IsKnown tells before now → RunArms k 1 all fates start armed
  pub bytes : Appends held mid (text_of (joined pieces))

-- why a run was cut off, with these bytes of a line
abbrev pub IsCause : Cut → List ℕ → ℕ → ℕ → ℕ → ℕ → Type 0
IsCause cut.Disk last writes writes_after faults faults_after = Rose faults faults_after × (last ≡ [])
IsCause cut.Sink last writes writes_after faults faults_after = Rose writes writes_after
IsCause cut.NoMemory last writes writes_after faults faults_after = Unit {0}

-- A front of a run's lines was written, and this is left of the disk. `lines` are those of the run in which the disk did this in its steps.
pub record InPart (tells : Type 0) (before now : ℕ) (lines : List Fates → List Shown) (Leaves : List Fates → List Shown → Type 0) (last : List ℕ) (held mid : Option (List ℕ)) : Type 0 where
  pub fates : List Fates
  pub are : AreOf fates before now
  pub shown : List Shown
  pub unwritten : List Shown
  pub front : IsKnown tells before now → (rest : List Shown) × (lines fates ≡ shown ++ (unwritten ++ rest))
  pub bytes : Appends held mid (text_of shown ++ last)
  pub part : IsPartOf unwritten last
  pub left : tells → Leaves fates shown

-- the lines of a run's pieces
abbrev pub run_lines : ℕ → List Read → World → List Fates → List Shown
run_lines k all start fates = joined (run_from k 1 all fates start).pieces

-- what is left of a disk, as it's seen now, by a run that was cut off
abbrev pub run_leaves : View → ℕ → List Read → World → List Fates → List Shown → Type 0
run_leaves seen k all start fates shown = EachLeft seen (IsOfMoment k all fates start shown)

pub record CutOff (tells : Type 0) (before now : ℕ) (seen : View) (k : ℕ) (all : List Read) (start : World) (c : Cut) (held mid : Option (List ℕ)) (writes writes_after faults faults_after : ℕ) : Type 0 where
  pub last : List ℕ
  pub cause : IsCause c last writes writes_after faults faults_after
  pub part : InPart tells before now (run_lines k all start) (run_leaves seen k all start) last held mid

-- One line.

-- The machine goes on behind a line, or its run ends there.
abbrev pub LineEnds : Option Ending → ℕ → ℕ → Read → List Read → Fates → World → World → List Shown → Type 0
LineEnds None k number r ahead fates w v piece = (more : List Fates) → run_from k number (r ∷ ahead) (fates ∷ more) w ≡ behind_pieces (piece ∷ []) (run_from k (number + 1) ahead more v)
LineEnds (Some e) k number r ahead fates w v piece = (more : List Fates) → run_from k number (r ∷ ahead) (fates ∷ more) w ≡ record { world = v; pieces = piece ∷ []; ending = ending_of e }

-- The stops of the lines from this one on follow the arms, where those of the lines behind it do.
abbrev pub LineFollows : Option Ending → ℕ → ℕ → Read → Fates → World → World → Option ℕ → Option ℕ → Type 0
LineFollows None k number r fates w v old new = (ahead : List Read) (more : List Fates) → RunArms k (number + 1) ahead more v new → RunArms k number (r ∷ ahead) (fates ∷ more) w old
LineFollows (Some e) k number r fates w v old new = (ahead : List Read) (more : List Fates) → RunArms k number (r ∷ ahead) (fates ∷ more) w old

-- A line that was carried out, with its piece written.
pub record LineDone (tells : Type 0) (old new : Counts) (k number : ℕ) (r : Read) (w v : World) (e : Option Ending) (held mid : Option (List ℕ)) : Type 0 where
  pub fates : Fates
  pub are : AreOfLine fates old new
  pub piece : List Shown
  pub run : IsKnown tells old.stops new.stops → (ahead : List Read) → LineEnds e k number r ahead fates w v piece
  pub arms : IsKnown tells old.stops new.stops → LineFollows e k number r fates w v old.armed new.armed
  pub bytes : Appends held mid (text_of piece)

-- A line in which the run was cut off: its piece is written in part, or not at all.
pub record LineCut (tells : Type 0) (old new : Counts) (seen : View) (k number : ℕ) (r : Read) (w : World) (c : Cut) (held mid : Option (List ℕ)) (writes writes_after : ℕ) : Type 0 where
  pub fates : Fates
  pub are : AreOfLine fates old new
  pub shown : List Shown
  pub unwritten : List Shown
  pub front : IsKnown tells old.stops new.stops → (ahead : List Read) (more : List Fates) → (rest : List Shown) × (joined (run_from k number (r ∷ ahead) (fates ∷ more) w).pieces ≡ shown ++ (unwritten ++ rest))
  pub last : List ℕ
  pub bytes : Appends held mid (text_of shown ++ last)
  pub part : IsPartOf unwritten last
  pub cause : IsCause c last writes writes_after old.faults new.faults
  pub left : tells → EachLeft seen (IsInLine k number r w fates shown)

-- what a line makes of the run, by the fault that carrying it out came to
abbrev pub line_end : {X : Type 0} → Result X WorldFault → ℕ → ℕ → Result (Option Ending) Cut
line_end (Ok x) number column = Ok None
line_end (Err (fault.Spent n)) number column = Ok (Some (ending.Spent n))
line_end (Err fault.NoSuchOp) number column = Ok (Some (ending.BadLine number column))
line_end (Err fault.NoSuchMsg) number column = Ok (Some (ending.BadLine number column))
line_end (Err fault.DiskFailed) number column = Err cut.Disk
line_end (Err (fault.BadDisk p)) number column = Err cut.NoMemory
line_end (Err fault.NoMemory) number column = Err cut.NoMemory

-- Too many messages are pending, or old ones are forgotten.
abbrev pub PendingEnd : Option Ending → World → World → Type 0
PendingEnd None w v = (pending w ≤ machine.max_pending) × (v ≡ forget w)
PendingEnd (Some e) w v = (machine.max_pending < pending w) × (e ≡ ending.TooMany (pending w)) × (v ≡ w)
