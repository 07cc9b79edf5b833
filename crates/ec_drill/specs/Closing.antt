-- No public clause cites this module: it says what the private steps at the end of a run do.
use Rattle.std.specs.Prelude.{◌≡◌, ⊤, ℕ, Bool, true, false, List, [], ◌++◌, Option, Result, Ok, Err}
use Rattle.std.specs.Io.KnownBytes.{Appends}
use Rattle.ec_disk.specs.Disk.{View}
use Rattle.ec_history.specs.declared.shown.Shown.{Shown}
use Rattle.ec_stands.specs.Stands.{StandsFor}
use Rattle.ec_protocol.specs.Drill.{Ran, Ending, Done, BadLine, TooMany, IsSpent, close, joined, last_line, status}
use Rattle.ec_drill.specs.declared.status.Status.TheVariants as own
use Rattle.ec_protocol.specs.declared.world.World.{World}
use Rattle.ec_protocol.specs.declared.world.WorldFault.{WorldFault}
use Rattle.ec_protocol.specs.declared.world.WorldFault.TheVariants as fault
use Rattle.ec_words.specs.OfText.Lines.{text_of}
use Rattle.ec_drill.specs.Cuts.{IsPartOf}
use Rattle.ec_drill.specs.Left.{EachLeft}
use Rattle.ec_drill.specs.ExitCodes.{code}
use Rattle.ec_drill.specs.Steps.{IsCause}
use Rattle.ec_drill.specs.declared.status.Status.{Status}
use Rattle.ec_drill.specs.declared.running.Ending.{Ending as OwnEnding}
use Rattle.ec_drill.specs.declared.running.Ending.TheVariants as own_ending
use Rattle.ec_drill.specs.declared.writing.Cut.{Cut}
use Rattle.ec_drill.specs.declared.writing.Cut.TheVariants as cut

-- a counter is spent
abbrev pub is_spent : Ending → Bool
is_spent (IsSpent n) = true
is_spent Done = false
is_spent (BadLine number column) = false
is_spent (TooMany n) = false

-- what a last restart that isn't carried out makes of the end
abbrev pub restart_end : WorldFault → Result OwnEnding Cut
restart_end (fault.Spent n) = Ok (own_ending.Spent n)
restart_end fault.DiskFailed = Err cut.Disk
restart_end (fault.BadDisk place) = Err cut.NoMemory
restart_end fault.NoSuchOp = Err cut.NoMemory
restart_end fault.NoSuchMsg = Err cut.NoMemory
restart_end fault.NoMemory = Err cut.NoMemory

-- a run that came to this world and ended so, with these pieces
abbrev pub ran_to : World → Ending → List (List Shown) → Ran
ran_to w e pieces = record { world = w; pieces = pieces; ending = e }

-- the run behind its last restart
abbrev pub closed : World → Ending → List (List Shown) → Ran
closed w e pieces = close e (ran_to w e pieces)

-- all its lines
abbrev pub lines_in : Ran → List Shown
lines_in r = joined r.pieces ++ last_line r.ending

-- The last restart was carried out, if there is one, and its lines written. The run came to the world `v` and ends so.
pub record Restarted (w v : World) (e end : Ending) (held now : Option (List ℕ)) : Type 0 where
  pub shown : List Shown
  pub pieces : (pieces : List (List Shown)) → joined (closed w e pieces).pieces ≡ joined pieces ++ shown
  pub world : (pieces : List (List Shown)) → (closed w e pieces).world ≡ v
  pub ending : (pieces : List (List Shown)) → (closed w e pieces).ending ≡ end
  pub bytes : Appends held now (text_of shown)

-- An image stands for the state before the end of a run, or for the one behind its last restart.
pub data IsClosing (w : World) (e : Ending) (written : List Shown) (image : List ℕ) : Type 0 where
  before_end : written ≡ [] → StandsFor image w.durable → IsClosing w e written image
  behind_end : (v : World) → ((pieces : List (List Shown)) → (closed w e pieces).world ≡ v) → StandsFor image v.durable → IsClosing w e written image

-- the run was cut off there
pub record RestartedInPart (tells : Type 0) (seen : View) (w : World) (e : Ending) (c : Cut) (held now : Option (List ℕ)) (writes writes_after faults faults_after : ℕ) : Type 0 where
  pub shown : List Shown
  pub unwritten : List Shown
  pub front : (pieces : List (List Shown)) → (rest : List Shown) × (joined (closed w e pieces).pieces ≡ joined pieces ++ (shown ++ (unwritten ++ rest)))
  pub last : List ℕ
  pub bytes : Appends held now (text_of shown ++ last)
  pub part : IsPartOf unwritten last
  pub cause : IsCause c last writes writes_after faults faults_after
  pub left : tells → EachLeft seen (IsClosing w e shown)

-- the statuses of runs that end by themselves
abbrev pub IsOwn : Status → Type 0
IsOwn own.Done = ⊤
IsOwn own.BadLine = ⊤
IsOwn own.Limit = ⊤
IsOwn own.Spent = ⊤
IsOwn _ = ⊥

-- the last line was written
pub record LastTold (e : Ending) (st : Status) (held now : Option (List ℕ)) : Type 0 where
  pub bytes : Appends held now (text_of (last_line e))
  pub number : code st ≡ status e
  pub own : IsOwn st

-- All lines behind the pieces were written, and the run came to the world `v`.
pub record Closed (w v : World) (e : Ending) (st : Status) (held now : Option (List ℕ)) : Type 0 where
  pub shown : List Shown
  pub lines : (pieces : List (List Shown)) → lines_in (closed w e pieces) ≡ joined pieces ++ shown
  pub world : (pieces : List (List Shown)) → (closed w e pieces).world ≡ v
  pub number : (pieces : List (List Shown)) → code st ≡ status (closed w e pieces).ending
  pub own : IsOwn st
  pub bytes : Appends held now (text_of shown)

-- a front of them was
pub record ClosedInPart (tells : Type 0) (seen : View) (w : World) (e : Ending) (c : Cut) (held now : Option (List ℕ)) (writes writes_after faults faults_after : ℕ) : Type 0 where
  pub shown : List Shown
  pub unwritten : List Shown
  pub front : (pieces : List (List Shown)) → (rest : List Shown) × (lines_in (closed w e pieces) ≡ joined pieces ++ (shown ++ (unwritten ++ rest)))
  pub last : List ℕ
  pub bytes : Appends held now (text_of shown ++ last)
  pub part : IsPartOf unwritten last
  pub cause : IsCause c last writes writes_after faults faults_after
  pub left : tells → EachLeft seen (IsClosing w e shown)
