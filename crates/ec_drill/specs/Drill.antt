-- What a drill does with its source, its sink and its disk.
use Rattle.std.specs.Prelude.{◌≡◌, true, false, ◌<◌, ◌≤◌, ◌⊎◌, ◌+◌, ℕ, List, [], ◌++◌, length, None, Ok, Err}
use Rattle.std.specs.Io.KnownBytes.{Consumes, Appends, Keeps, IsAtEnd}
use Rattle.ec_base.specs.Outside.{Rose}
use Rattle.ec_disk.specs.Disk.{View, Counts}
use Rattle.ec_history.specs.declared.shown.LimitName.{LimitName}
use Rattle.ec_history.specs.declared.shown.LimitName.TheVariants as limit
use Rattle.ec_history.specs.declared.shown.Shown.{Shown}
use Rattle.ec_history.specs.declared.shown.Shown.TheVariants.{Limit, DiskBad}
use Rattle.ec_durable.specs.declared.state.Durable.{Durable}
use Rattle.ec_stands.specs.Stands.{StandsFor, IsBadAt}
use Rattle.ec_script.specs.Lines.{lines_of}
use Rattle.ec_words.specs.OfText.Lines.{shown_text, text_of}
use Rattle.ec_protocol.specs.declared.world.World.{World}
use Rattle.ec_protocol.specs.World.{open_world}
use Rattle.ec_protocol.specs.Drill.{Read, Fates, Ran, run_from, bound, close, drill}
use Rattle.ec_world.specs.Steps.{Opens}
use Rattle.ec_drill.specs.Limits.{most_bytes, most_lines}
use Rattle.ec_drill.specs.Seen.{Stream, Store}
use Rattle.ec_drill.specs.Script.{AreRead}
use Rattle.ec_drill.specs.Arms.{RunArms, any_arm}
use Rattle.ec_history.specs.History.{Each}
use Rattle.ec_drill.specs.Fates.{AllRun, IsKnown}
use Rattle.ec_drill.specs.Cuts.{IsCutFront, IsPartOf}
use Rattle.ec_drill.specs.Left.{LeavesOf}
use Rattle.ec_drill.specs.declared.status.Status.{Status}
use Rattle.ec_drill.specs.declared.status.Status.TheVariants as status

-- a source, a sink and a disk
pub record Outside : Type 1 where
  pub source : Stream
  pub sink : Stream
  pub store : Store

-- nothing was written
abbrev pub IsSilent : Outside → Type 0
IsSilent w = Keeps w.sink.bytes w.sink.bytes_after

-- the disk wasn't touched
pub record IsDiskUntouched (w : Outside) : Type 0 where
  pub gives : w.store.disk_after.gives ≡ w.store.disk.gives
  pub crash : (image : List ℕ) → w.store.disk_after.may_leave image → w.store.disk.may_leave image
  pub counts : w.store.counts_after ≡ w.store.counts

-- the source was read to its end and gave this script
pub record IsScript (w : Outside) (script : List ℕ) : Type 0 where
  pub given : Consumes w.source.bytes w.source.bytes_after script
  pub at_end : IsAtEnd w.source.bytes_after
  pub few_bytes : length script ≤ most_bytes

-- the source was read to its end, and gave these lines, within the limits
pub record IsGiven (source : Stream) (reads : List Read) : Type 0 where
  pub script : List ℕ
  pub given : Consumes source.bytes source.bytes_after script
  pub at_end : IsAtEnd source.bytes_after
  pub few_bytes : length script ≤ most_bytes
  pub few_lines : length (lines_of script) ≤ most_lines
  pub read : AreRead (lines_of script) reads

-- A step is stopped only where a line of the script arms the disk, and the disk's stops rose.
abbrev pub AreStops : Outside → List Read → List Fates → Type 0
AreStops w reads fates = Each AllRun fates ⊎ ((any_arm reads ≡ true) × Rose w.store.counts.stops w.store.counts_after.stops)

-- Whether it's known what the disk did in each step. It is where no line arms it.
abbrev pub IsToldAll : Outside → List Read → Type 0
IsToldAll w reads = IsKnown w.store.tells w.store.counts.stops w.store.counts_after.stops ⊎ (any_arm reads ≡ false)

-- A disk stands for a state: what a read gives does, and each image that a crash may leave.
pub record HoldsState (now : View) (state : Durable) : Type 0 where
  pub gives : StandsFor now.gives state
  pub crash : (image : List ℕ) → now.may_leave image → StandsFor image state

-- the world that a run on this one comes to, with its last restart
abbrev pub end_of : List Read → List Fates → World → World
end_of reads fates start = let ran : Ran = run_from (bound reads) 1 reads fates start in (close ran.ending ran).world

-- The durable state that a drill on this one comes to. Where the opening would spend a counter, nothing is changed.
abbrev pub state_after : List Read → List Fates → Durable → Durable
state_after reads fates d = elim (open_world d) [ Err n ↦ d | Ok start ↦ (end_of reads fates start).durable ]

-- A run that ended by itself: all its lines were written, of which the last one says why it ended early.
pub record RanWhole (most number : ℕ) (w : Outside) : Type 0 where
  pub reads : List Read
  pub given : IsGiven w.source reads
  -- the disk stood for this state; an empty one was formatted
  pub state : Durable
  pub opens : Opens w.store.tells w.store.disk.gives most state
  -- what the disk did in each step
  pub fates : List Fates
  pub stopped : AreStops w reads fates
  -- the stops follow the lines that arm the disk
  pub followed : IsToldAll w reads → (start : World) → open_world state ≡ Ok start → RunArms (bound reads) 1 reads fates start None
  -- the lines and the status are the machine's
  pub shown : List Shown
  pub lines : IsToldAll w reads → (drill reads fates state).0 ≡ shown
  pub status : IsToldAll w reads → (drill reads fates state).1 ≡ number
  pub bytes : Appends w.sink.bytes w.sink.bytes_after (text_of shown)
  -- the disk stands for the machine's state
  pub disk : w.store.tells → HoldsState w.store.disk_after (state_after reads fates state)

-- A run that was cut off: a front of its lines was written, and perhaps a part of the next one. Whatever a crash leaves of the disk stands for the
-- state at a moment of the run by which all that was written had been shown.
pub record RanInPart (most : ℕ) (w : Outside) (last : List ℕ) : Type 0 where
  pub reads : List Read
  pub given : IsGiven w.source reads
  pub state : Durable
  pub opens : Opens w.store.tells w.store.disk.gives most state
  pub fates : List Fates
  pub stopped : AreStops w reads fates
  pub shown : List Shown
  pub unwritten : List Shown
  pub front : IsToldAll w reads → (rest : List Shown) × ((drill reads fates state).0 ≡ shown ++ (unwritten ++ rest))
  pub bytes : Appends w.sink.bytes w.sink.bytes_after (text_of shown ++ last)
  pub part : IsPartOf unwritten last
  pub left : w.store.tells → LeavesOf w.store.disk_after reads fates state (open_world state) shown

-- The source has too much: more bytes than the limit, of which one more than the limit was read, or too many lines.
abbrev pub IsOver : Outside → LimitName → ℕ → Type 0
IsOver w limit.Bytes n = (n ≡ most_bytes + 1) × (bytes : List ℕ) × Consumes w.source.bytes w.source.bytes_after bytes × (length bytes ≡ n)
IsOver w limit.Lines n = (script : List ℕ) × IsScript w script × (n ≡ length (lines_of script)) × (most_lines < n)
IsOver w limit.Pending n = ⊥

-- The disk isn't empty, stands for no state, and this is its first bad place. It gives what it gave.
abbrev pub IsBad : Outside → ℕ → Type 0
IsBad w place = w.store.tells → (length w.store.disk.gives ≡ 0 → ⊥) × IsBadAt w.store.disk.gives place × (w.store.disk_after.gives ≡ w.store.disk.gives)

-- Why nothing was carried out, with the line that says so.
pub data Unbegun (w : Outside) : Shown → Type 0 where
  over : (name : LimitName) (n : ℕ) → IsOver w name n → IsDiskUntouched w → Unbegun w (Limit name n)
  bad : (place : ℕ) (reads : List Read) → IsGiven w.source reads → IsBad w place → Unbegun w (DiskBad place)

-- nothing was carried out, and the sink took a part of the line that says so
pub record RefusedInPart (w : Outside) : Type 0 where
  pub line : Shown
  pub why : Unbegun w line
  pub last : List ℕ
  pub part : (last ≡ []) ⊎ IsCutFront (shown_text line) last
  pub bytes : Appends w.sink.bytes w.sink.bytes_after last

-- a run that was cut off between two lines, or before the first
abbrev pub IsCutClean : ℕ → Outside → Type 0
IsCutClean most w = RanInPart most w [] ⊎ IsSilent w

-- a run that was cut off, perhaps in a line
abbrev pub IsCut : ℕ → Outside → Type 0
IsCut most w = ((last : List ℕ) × RanInPart most w last) ⊎ RefusedInPart w

-- Each status, by its causes, with what was written.
abbrev pub Drilled : ℕ → Status → Outside → Type 0
Drilled most status.Done w = RanWhole most 0 w
Drilled most status.Usage w = ⊥
Drilled most status.BadLine w = RanWhole most 3 w
Drilled most status.SourceFault w = Rose w.source.faults w.source.faults_after × IsSilent w × IsDiskUntouched w
Drilled most status.SinkFault w = Rose w.sink.faults w.sink.faults_after × IsCut most w
Drilled most status.DiskFault w = Rose w.store.counts.faults w.store.counts_after.faults × IsCutClean most w
Drilled most status.BadDisk w = (place : ℕ) × (reads : List Read) × IsGiven w.source reads × IsBad w place × Appends w.sink.bytes w.sink.bytes_after (shown_text (DiskBad place))
Drilled most status.NoMemory w = IsCut most w ⊎ IsSilent w
Drilled most status.Limit w = ((name : LimitName) × (n : ℕ) × IsOver w name n × IsDiskUntouched w × Appends w.sink.bytes w.sink.bytes_after (shown_text (Limit name n))) ⊎ RanWhole most 11 w
Drilled most status.Spent w = RanWhole most 15 w
