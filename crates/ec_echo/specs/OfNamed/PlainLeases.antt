-- A script with leases that has comments, calls and pushes alone, on a new disk: it's answered as without leases, however long these run.
use Rattle.std.specs.Prelude.{◌≡◌, ◌≤◌, ◌⊎◌, ℕ, List, [], ◌++◌, length, map, Option, Some, ⊤}
use Rattle.ec_base.specs.Outside.{Rose}
use Rattle.ec_volume.specs.Volume.{images}
use Rattle.ec_durable.specs.Durable.{formatted}
use Rattle.ec_history.specs.History.{Each}
use Rattle.ec_history.specs.declared.shown.Shown.{Shown}
use Rattle.ec_script.specs.Lines.{lines_of}
use Rattle.ec_lawful.specs.Drills.{lines_in}
use Rattle.ec_complete.specs.Complete.{IsComplete}
use Rattle.ec_complete.specs.PlainScripts.{IsPlainScript}
use Rattle.ec_lease_machine.specs.Drill.{LeaseRead, reads}
use Rattle.ec_lease_machine.specs.declared.script.LeaseLine.TheVariants.{Drill}
use Rattle.ec_lease_machine.specs.declared.world.LeaseShown.{LeaseShown}
use Rattle.ec_lease_machine.specs.declared.world.LeaseShown.TheVariants.{Line}
use Rattle.ec_lease.specs.OfDrill.Drill.{GivesReads}
use Rattle.ec_lease.specs.OfDrill.Script.{AreRead, lease_objects, most_bytes, most_lines}
use Rattle.ec_drill.specs.Seen.{Stream, Store}
use Rattle.ec_echo.specs.Echo.{leasing}
use Rattle.ec_echo.specs.OfNamed.Forms.{outside}
use Rattle.ec_echo.specs.OfNamed.Leases.{WroteLeases, as_read}
use Rattle.ec_echo.specs.OfNamed.Runs.{IsUncut}
use Rattle.ec_echo.specs.OfNamed.Seen.{IsNew}

-- the line is one of a drill's scripts
abbrev pub IsDrilled : LeaseRead → Type 0
IsDrilled (reads (Drill l) column) = ⊤
IsDrilled _ = ⊥

-- so is each, and the script is plain as a drill's
abbrev pub IsPlainLease : List LeaseRead → Type 0
IsPlainLease script = Each IsDrilled script × IsPlainScript lease_objects (map as_read script)

-- A source that has this left tells its bytes. They are a script within the limits, and it's plain as its lines are read.
pub record GivesPlainLease (e : ℕ) (left : Option (List ℕ)) : Type 0 where
  pub script : List ℕ
  pub gives : left ≡ Some script
  pub few_bytes : length script ≤ most_bytes
  pub few_lines : length (lines_of script) ≤ most_lines
  pub plain : (script_lines : List LeaseRead) → AreRead e (lines_of script) script_lines → IsPlainLease script_lines

-- the status is 0, no session is held, and the answers are those of one plain volume to all calls
pub record AnswersPlainly (result : ℕ) (script : List LeaseRead) (written : List LeaseShown) : Type 0 where
  pub done : result ≡ 0
  pub lines : List Shown
  pub unheld : written ≡ map Line lines
  pub complete : IsComplete (images (formatted lease_objects).volume) (lines_in (map as_read script)) lines 0

-- The lines that a drill of this script wrote; where it's plain, they answer it plainly.
pub record DrilledPlainly (e result : ℕ) (source sink : Stream) (store : Store) : Type 0 where
  pub script : List LeaseRead
  pub gave : GivesReads e (leasing (outside source sink store)) script
  pub told : List LeaseShown
  pub wrote : WroteLeases result sink told
  pub plain : IsPlainLease script → ∥ AnswersPlainly result script (told ++ map Line wrote.why) ∥₁

-- the disk made no stop
abbrev pub IsStill : Store → Type 0
IsStill store = Rose store.counts.stops store.counts_after.stops → ⊥

-- A plain script on a new disk, which its lines alone tell.
pub record LeaseComplete (result : ℕ) (source sink : Stream) (store : Store) (l e : ℕ) : Type 0 where
  -- it's answered plainly, or no line of a run was written
  pub answers : IsUncut result → IsNew store → IsStill store → WroteLeases result sink [] ⊎ DrilledPlainly e result source sink store
  -- a source that tells it is drilled well, unless the source, the sink, the disk or the memory fails
  pub ends_well : IsNew store → IsStill store → GivesPlainLease e source.bytes → (result ≡ 4 → ⊥) → IsUncut result → result ≡ 0
