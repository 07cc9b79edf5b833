-- What the program does with a script that it makes and drills itself, from memory to memory.
use Rattle.std.specs.Prelude.{◌≡◌, ◌⊎◌, ℕ, List, [], Option, Some}
use Rattle.ec_script.specs.OfGenerator.Generator.{script_of}
use Rattle.ec_drill.specs.Drill.{Drilled}
use Rattle.ec_drill.specs.Limits.{most_objects}
use Rattle.ec_drill.specs.declared.status.Status as drilled
use Rattle.ec_drill.specs.OfPromise.Completes.{GivesPlainScript}
use Rattle.ec_echo.specs.Echo.{IsSourceUntouched}
use Rattle.ec_echo.specs.Made.{made_lines}
use Rattle.ec_echo.specs.Soak.{IsUnmade, Told}
use Rattle.ec_echo.specs.Statuses.{code, of_drill}
use Rattle.ec_echo.specs.declared.status.Status.{Status}
use Rattle.ec_echo.specs.OfNamed.Forms.{outside}
use Rattle.ec_echo.specs.OfNamed.Runs.{Complete, Spent, Together}
use Rattle.ec_drill.specs.Seen.{Stream, Store}

-- a source in memory that had the script of this number
abbrev pub made : ℕ → Option (List ℕ) → Stream
made number left_after = record { bytes = Some (script_of number made_lines); bytes_after = left_after; faults = 0; faults_after = 0 }

-- a sink in memory that came to hold this transcript
abbrev pub transcribed : List ℕ → Stream
transcribed transcript = record { bytes = Some []; bytes_after = Some transcript; faults = 0; faults_after = 0 }

-- The script of this number, which is plain, was drilled over the disk. Its lines keep what those of a drill do, and what they tell was written.
pub record SoaksOnce (number : ℕ) (result : Status) (sink : Stream) (store : Store) : Type 0 where
  pub left_after : Option (List ℕ)
  pub transcript : List ℕ
  pub end : drilled.Status
  pub drilled_so : Drilled most_objects end (outside (made number left_after) (transcribed transcript) store)
  pub plain : GivesPlainScript most_objects (Some (script_of number made_lines))
  pub complete : Complete (code (of_drill end)) (made number left_after) (transcribed transcript) store most_objects
  pub together : Together (code (of_drill end)) (made number left_after) (transcribed transcript) store most_objects
  pub spent : Spent (code (of_drill end)) (made number left_after) (transcribed transcript) store most_objects
  pub told : Told number end transcript result sink.bytes sink.bytes_after sink.faults sink.faults_after

-- so it was, or there was no memory for the script
abbrev pub DoesSoak : ℕ → Stream → Stream → Store → ℕ → Type 0
DoesSoak result source sink store number =
    (st : Status) × (result ≡ code st) × (SoaksOnce number st sink store ⊎ IsUnmade st (outside source sink store)) × IsSourceUntouched (outside source sink store)
