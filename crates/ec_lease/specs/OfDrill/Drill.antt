-- What a drill with leases does with its source, its sink and its disk.
use Rattle.std.specs.Prelude.{◌≡◌, ◌<◌, ◌≤◌, ◌⊎◌, ◌+◌, ℕ, List, [], ◌∷◌, ◌++◌, length, take, Option, Ok, Err}
use Rattle.std.specs.Io.KnownBytes.{Consumes, Appends, Keeps, IsAtEnd}
use Rattle.ec_base.specs.Outside.{Rose}
use Rattle.ec_disk.specs.Disk.{View, Counts}
use Rattle.ec_history.specs.declared.shown.LimitName.{LimitName}
use Rattle.ec_history.specs.declared.shown.LimitName.TheVariants as limit
use Rattle.ec_history.specs.declared.shown.Shown.{Shown}
use Rattle.ec_history.specs.declared.shown.Shown.TheVariants.{Limit, DiskBad}
use Rattle.ec_durable.specs.declared.state.Durable.{Durable}
use Rattle.ec_stands.specs.Stands.{StandsFor, IsBadAt}
use Rattle.ec_script.specs.Lines.{lines_of}
use Rattle.ec_words.specs.OfText.Lines.{shown_text}
use Rattle.ec_protocol.specs.Drill.{Fates}
use Rattle.ec_protocol.specs.World.{runs, open_world}
use Rattle.ec_lease_machine.specs.OfWords.Text.{lease_text, lease_texts}
use Rattle.ec_lease_machine.specs.Drill.{LeaseRead, drill}
use Rattle.ec_lease_machine.specs.OfLeaseWorlds.Lines.{lease_run}
use Rattle.ec_lease_machine.specs.declared.world.LeaseShown.{LeaseShown}
use Rattle.ec_world.specs.Steps.{Opens}
use Rattle.ec_lease.specs.OfDrill.Script.{AreRead, lease_objects, most_bytes, most_lines}
use Rattle.ec_lease.specs.declared.drill.status.Status.{Status}
use Rattle.ec_lease.specs.declared.drill.status.Status.TheVariants as status

-- A source, a sink and a disk, before and after: the bytes left and held, where told, what the disk holds, and the counts.
pub record LeaseOutside : Type 1 where
  pub left : Option (List ℕ)
  pub left_after : Option (List ℕ)
  pub reads : ℕ
  pub reads_after : ℕ
  pub held : Option (List ℕ)
  pub held_after : Option (List ℕ)
  pub writes : ℕ
  pub writes_after : ℕ
  -- whether the disk tells its content
  pub tells : Type 0
  pub disk : View
  pub disk_after : View
  pub counts : Counts
  pub counts_after : Counts

-- the disk wasn't touched
pub record IsDiskIdle (w : LeaseOutside) : Type 0 where
  pub gives : w.disk_after.gives ≡ w.disk.gives
  pub crash : (image : List ℕ) → w.disk_after.may_leave image → w.disk.may_leave image
  pub counts : w.counts_after ≡ w.counts

-- the source was read to its end and gave this script
pub record GivesBytes (w : LeaseOutside) (script : List ℕ) : Type 0 where
  pub given : Consumes w.left w.left_after script
  pub at_end : IsAtEnd w.left_after
  pub few_bytes : length script ≤ most_bytes

-- a script within the limits, of these lines, where clocks differ by at most so much
pub record GivesReads (e : ℕ) (w : LeaseOutside) (reads : List LeaseRead) : Type 0 where
  pub script : List ℕ
  pub bytes : GivesBytes w script
  pub few_lines : length (lines_of script) ≤ most_lines
  pub read : AreRead e (lines_of script) reads

-- What the disk did in the steps of a run: all of them ran, or its stops rose.

abbrev pub AllRun : Fates → Type 0
AllRun [] = Unit {0}
AllRun (f ∷ fs) = (f ≡ runs) × AllRun fs

abbrev pub EachRuns : List Fates → Type 0
EachRuns [] = Unit {0}
EachRuns (fs ∷ more) = AllRun fs × EachRuns more

-- What a stop leaves is read back from the disk. So what a run did is known on a disk that tells its content, and on one that didn't stop.
abbrev pub IsClear : Type 0 → ℕ → ℕ → Type 0
IsClear tells before now = tells ⊎ (Rose before now → ⊥)

abbrev pub IsSeenAll : LeaseOutside → Type 0
IsSeenAll w = IsClear w.tells w.counts.stops w.counts_after.stops

-- a disk stands for a state: what a read gives does, and each image that a crash may leave
pub record KeepsState (now : View) (state : Durable) : Type 0 where
  pub gives : StandsFor now.gives state
  pub crash : (image : List ℕ) → now.may_leave image → StandsFor image state

-- the durable state that a drill on this one comes to; where the opening would spend a counter, nothing is changed
abbrev pub leased_state : ℕ → ℕ → List LeaseRead → List Fates → Durable → Durable
leased_state l e reads fates d = elim (open_world d) [ Err n ↦ d | Ok start ↦ (lease_run l e reads fates start).world.world.durable ]

-- A run that ended by itself: all its lines were written, of which the last one says why it ended early.
pub record RanAll (l e number : ℕ) (w : LeaseOutside) : Type 0 where
  pub reads : List LeaseRead
  pub given : GivesReads e w reads
  -- the disk stood for this state; an empty one was formatted
  pub state : Durable
  pub opens : Opens w.tells w.disk.gives lease_objects state
  -- what the disk did in each step
  pub fates : List Fates
  pub stopped : EachRuns fates ⊎ Rose w.counts.stops w.counts_after.stops
  -- the lines and the status are the machine's
  pub shown : List LeaseShown
  pub lines : IsSeenAll w → (drill l e reads fates state).0 ≡ shown
  pub status : IsSeenAll w → (drill l e reads fates state).1 ≡ number
  pub bytes : Appends w.held w.held_after (lease_texts shown)
  -- the disk stands for the machine's state, but where a spent counter ended the run
  pub disk : (number ≡ 15 → ⊥) → w.tells → KeepsState w.disk_after (leased_state l e reads fates state)

-- a front of the text, not the whole
pub record IsFrontOf (text front : List ℕ) : Type 0 where
  pub count : ℕ
  pub short : count < length text
  pub is : front ≡ take count text

-- a part of the first of these lines, not the whole
abbrev pub IsPartOf : List LeaseShown → List ℕ → Type 0
IsPartOf [] last = last ≡ []
IsPartOf (s ∷ ss) last = (last ≡ []) ⊎ IsFrontOf (lease_text s) last

-- A run that was cut off: a front of its lines was written, and perhaps a part of the next one.
pub record RanPart (l e : ℕ) (w : LeaseOutside) (last : List ℕ) : Type 0 where
  pub reads : List LeaseRead
  pub given : GivesReads e w reads
  pub state : Durable
  pub opens : Opens w.tells w.disk.gives lease_objects state
  pub fates : List Fates
  pub stopped : EachRuns fates ⊎ Rose w.counts.stops w.counts_after.stops
  pub shown : List LeaseShown
  pub unwritten : List LeaseShown
  pub front : IsSeenAll w → (rest : List LeaseShown) × ((drill l e reads fates state).0 ≡ shown ++ (unwritten ++ rest))
  pub bytes : Appends w.held w.held_after (lease_texts shown ++ last)
  pub part : IsPartOf unwritten last

-- The source has too much: more bytes than the limit, of which one more than the limit was read, or too many lines.
abbrev pub HasTooMuch : LeaseOutside → LimitName → ℕ → Type 0
HasTooMuch w limit.Bytes n = (n ≡ most_bytes + 1) × (bytes : List ℕ) × Consumes w.left w.left_after bytes × (length bytes ≡ n)
HasTooMuch w limit.Lines n = (script : List ℕ) × GivesBytes w script × (n ≡ length (lines_of script)) × (most_lines < n)
HasTooMuch w limit.Pending n = ⊥

-- The disk isn't empty, stands for no state, and this is its first bad place. It gives what it gave.
abbrev pub IsUnread : LeaseOutside → ℕ → Type 0
IsUnread w place = w.tells → (length w.disk.gives ≡ 0 → ⊥) × IsBadAt w.disk.gives place × (w.disk_after.gives ≡ w.disk.gives)

-- Why nothing was carried out, with the line that says so.
pub data NeverBegan (e : ℕ) (w : LeaseOutside) : Shown → Type 0 where
  over : (name : LimitName) (n : ℕ) → HasTooMuch w name n → IsDiskIdle w → NeverBegan e w (Limit name n)
  bad : (place : ℕ) (reads : List LeaseRead) → GivesReads e w reads → IsUnread w place → NeverBegan e w (DiskBad place)

-- nothing was carried out, and the sink took a part of the line that says so
pub record ToldPart (e : ℕ) (w : LeaseOutside) : Type 0 where
  pub line : Shown
  pub why : NeverBegan e w line
  pub last : List ℕ
  pub part : (last ≡ []) ⊎ IsFrontOf (shown_text line) last
  pub bytes : Appends w.held w.held_after last

abbrev pub IsQuiet : LeaseOutside → Type 0
IsQuiet w = Keeps w.held w.held_after

-- a run that was cut off, perhaps in a line
abbrev pub WasCut : ℕ → ℕ → LeaseOutside → Type 0
WasCut l e w = ((last : List ℕ) × RanPart l e w last) ⊎ ToldPart e w

-- Each status, by its causes, with what was written. Leases run for `l`, and clocks differ by at most `e`.
abbrev pub LeaseDrilled : ℕ → ℕ → Status → LeaseOutside → Type 0
LeaseDrilled l e status.Done w = RanAll l e 0 w
LeaseDrilled l e status.BadLine w = RanAll l e 3 w
LeaseDrilled l e status.SourceFault w = Rose w.reads w.reads_after × IsQuiet w × IsDiskIdle w
LeaseDrilled l e status.SinkFault w = Rose w.writes w.writes_after × WasCut l e w
LeaseDrilled l e status.DiskFault w = Rose w.counts.faults w.counts_after.faults × (RanPart l e w [] ⊎ IsQuiet w)
LeaseDrilled l e status.BadDisk w = (place : ℕ) × (reads : List LeaseRead) × GivesReads e w reads × IsUnread w place × Appends w.held w.held_after (shown_text (DiskBad place))
LeaseDrilled l e status.NoMemory w = WasCut l e w ⊎ IsQuiet w
LeaseDrilled l e status.Limit w = ((name : LimitName) × (n : ℕ) × HasTooMuch w name n × IsDiskIdle w × Appends w.held w.held_after (shown_text (Limit name n))) ⊎ RanAll l e 11 w
LeaseDrilled l e status.Spent w = RanAll l e 15 w
