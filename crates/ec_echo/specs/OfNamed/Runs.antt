-- What is promised of a drill's lines beside its script.
use Rattle.std.specs.Prelude.{◌≡◌, ◌==◌, ◌≤◌, ◌+◌, ◌⊎◌, ℕ, T, false, List, [], ◌∷◌, ◌++◌, length, take}
use Rattle.std.specs.List.{list_all, list_any}
use Rattle.ec_base.specs.Outside.{Rose}
use Rattle.ec_volume.specs.Volume.{WellFormed, images}
use Rattle.ec_durable.specs.declared.state.Durable.{Durable}
use Rattle.ec_history.specs.History.{Base, Each}
use Rattle.ec_history.specs.Lines.{IsStored}
use Rattle.ec_history.specs.Placing.{EachLine, place}
use Rattle.ec_history.specs.declared.shown.Shown.{Shown}
use Rattle.ec_stands.specs.Stands.{StandsFor}
use Rattle.ec_protocol.specs.Drill.{Read}
use Rattle.ec_drill.specs.Arms.{any_arm}
use Rattle.ec_drill.specs.Drill.{HoldsState, IsGiven}
use Rattle.ec_drill.specs.Fates.{IsKnown}
use Rattle.ec_lawful.specs.Headline.{AreEndsAsked, AreLawful, ArePieces, InScript, Lines, Pieces, joined}
use Rattle.ec_lawful.specs.Drills.{lines_in}
use Rattle.ec_drill.specs.OfPromise.OfRooms.Rooms.{IsWithinRoom}
use Rattle.ec_drill.specs.OfPromise.OfSpent.Spent.{SpendsFew}
use Rattle.ec_complete.specs.Complete.{IsComplete, IsFaultlessRead}
use Rattle.ec_complete.specs.Pieces.{ArePiecesBehind}
use Rattle.ec_complete.specs.PlainScripts.{IsPlainScript}
use Rattle.ec_drill.specs.OfPromise.Completes.{GivesPlainScript}
use Rattle.ec_drill.specs.OfPromise.Spared.{IsNoLoss, spares}
use Rattle.ec_drill.specs.Seen.{Stream, Store}
use Rattle.ec_echo.specs.OfNamed.Seen.{GivesAsBefore, IsNew}
use Rattle.ec_echo.specs.OfNamed.Told.{HoldsOfLines, OnFronts, WroteNone}

-- The lines of the script were carried out, or the first of them, and P holds of the lines written where the disk tells its content, made no stop, or no line arms it.
pub record Carried (most result : ℕ) (source sink : Stream) (store : Store) (P : List Read → Base → ℕ → List Shown → List Shown → Type 0) : Type 0 where
  pub reads : List Read
  pub gave : IsGiven source reads
  pub holds : IsKnown store.tells store.counts.stops store.counts_after.stops ⊎ (any_arm reads ≡ false) → ∥ HoldsOfLines most result sink store (P reads) ∥₁

-- So it is, or no line of a run was written.
abbrev pub OfRun : (List Read → Base → ℕ → List Shown → List Shown → Type 0) → ℕ → Stream → Stream → Store → ℕ → Type 0
OfRun P result source sink store most = Carried most result source sink store P ⊎ WroteNone result sink

-- the drill wasn't cut off by a fault of the sink or the disk, or for want of memory
abbrev pub IsUncut : ℕ → Type 0
IsUncut result = (result ≡ 5 → ⊥) × (result ≡ 6 → ⊥) × (result ≡ 9 → ⊥)

-- Each call is that of its line in the script, of which the first ones were carried out.
pub record AreOwn (reads : List Read) (base : Base) (limit : ℕ) (told why : List Shown) : Type 0 where
  pub lines : Lines
  pub front : lines ≡ take (length lines) (lines_in reads)
  pub own : EachLine (InScript lines) told

abbrev pub OwnCalls : ℕ → Stream → Stream → Store → ℕ → Type 0
OwnCalls = OfRun AreOwn

-- No session ends but by a crash or an end of the script: up to each line no more of a clerk's sessions ended than such lines were carried out.
pub record EndAsAsked (reads : List Read) (base : Base) (limit : ℕ) (told why : List Shown) : Type 0 where
  -- the lines carried out are those whose calls they are
  pub own : AreOwn reads base limit told why
  -- one piece for each line carried out, and perhaps one for the line that ended the run, and for the restart at the end
  pub pieces : Pieces
  pub in_pieces : told ≡ joined pieces
  pub counted : length pieces ≤ length own.lines + 2
  -- the first line of each call stands in the piece of the call's line
  pub numbered : ArePieces 1 [] pieces
  pub ends : AreEndsAsked own.lines pieces
  -- so nothing is lost where none of the lines of these pieces crashes a clerk or ends a session
  pub spared : T (list_all spares (take (length pieces) own.lines)) → Each IsNoLoss (place told)

abbrev pub Sessions : ℕ → Stream → Stream → Store → ℕ → Type 0
Sessions = OfRun EndAsAsked

-- All that at once, of the same lines, of which each front is lawful: also over a disk that tells nothing, where no line of the script arms it.
pub record AreLawfulTogether (reads : List Read) (base : Base) (limit : ℕ) (told why : List Shown) : Type 0 where
  pub fronts : OnFronts AreLawful base limit told why
  pub room : EachLine (IsWithinRoom limit) told
  pub ends : EndAsAsked reads base limit told why

abbrev pub Together : ℕ → Stream → Stream → Store → ℕ → Type 0
Together = OfRun AreLawfulTogether

-- A line that tells a spent counter names boots, sessions, epochs or ids, which the disk keeps.
abbrev pub Spent : ℕ → Stream → Stream → Store → ℕ → Type 0
Spent = OfRun (λ reads base limit told why. EachLine SpendsFew (told ++ why))

-- A plain script on a new disk, which its lines alone tell.
pub record Complete (result : ℕ) (source sink : Stream) (store : Store) (most : ℕ) : Type 0 where
  -- its answers are those of one plain volume to all its calls
  pub answers : IsUncut result → IsNew store → OfRun (λ reads base limit told why. IsPlainScript most reads → ∥ (result ≡ 0) × IsComplete base.volume (lines_in reads) (told ++ why) 0 ∥₁) result source sink store most
  -- a source that tells it is drilled well, unless the source, the sink, the disk or the memory fails
  pub ends_well : IsNew store → GivesPlainScript most source.bytes → (result ≡ 4 → ⊥) → IsUncut result → result ≡ 0

-- Each operation that a durable line names lies in a closure that the line of the script asks for, by pieces of lines, one for each line carried out.
pub record AreBehind (reads : List Read) (base : Base) (told : List Shown) : Type 0 where
  pub pieces : Pieces
  pub in_pieces : told ≡ joined pieces
  pub numbered : ArePieces 1 [] pieces
  pub behind : ArePiecesBehind base (lines_in reads) [] pieces

-- Of a script of comments, calls and pushes, on a disk that tells its content.
abbrev pub WriteBehind : ℕ → Stream → Stream → Store → ℕ → Type 0
WriteBehind result source sink store most = OfRun (λ reads base limit told why. store.tells → Each IsFaultlessRead reads → ∥ AreBehind reads base told ∥₁) result source sink store most

-- The disk stood for a state with this volume, and behind the run it stands for one whose volume has the shape that the operations leave which durable lines name.
pub record AreStored (store : Store) (reads : List Read) (base : Base) (limit : ℕ) (told why : List Shown) : Type 0 where
  pub before : Durable
  pub stood : store.tells → (length store.disk.gives ≡ 0 → ⊥) → StandsFor store.disk.gives before
  pub volume : base.volume ≡ images before.volume
  pub state : Durable
  pub stands : store.tells → HoldsState store.disk_after state
  pub formed : WellFormed (images state.volume)
  pub stored : IsStored base told (images state.volume)

-- So it is where no spent counter ended the run.
abbrev pub Stores : ℕ → Stream → Stream → Store → ℕ → Type 0
Stores result source sink store most = IsUncut result → (result ≡ 15 → ⊥) → OfRun (AreStored store) result source sink store most

-- A drill's statuses are these, each with its cause, and with the disk where nothing was carried out.
pub record Causes (result : ℕ) (source sink : Stream) (store : Store) (most : ℕ) : Type 0 where
  pub one_of : T (list_any (λ n. n == result) (0 ∷ 3 ∷ 4 ∷ 5 ∷ 6 ∷ 7 ∷ 9 ∷ 11 ∷ 15 ∷ []))
  pub source_failed : result ≡ 4 → Rose source.faults source.faults_after × GivesAsBefore store
  pub sink_failed : result ≡ 5 → Rose sink.faults sink.faults_after
  pub disk_failed : result ≡ 6 → Rose store.counts.faults store.counts_after.faults
  pub disk_bad : result ≡ 7 → store.tells → (length store.disk.gives ≡ 0 → ⊥) × GivesAsBefore store
  -- the source has more than the limits, or a line found too many messages
  pub over : result ≡ 11 → GivesAsBefore store ⊎ ((reads : List Read) × IsGiven source reads)
