-- The drill of a script that the program makes itself.
use Rattle.std.specs.Prelude.{◌⊎◌, ℕ, List, [], Option, Some}
use Rattle.ec_script.specs.OfGenerator.Generator.{script_of}
use Rattle.ec_drill.specs.Drill.{Outside, Drilled}
use Rattle.ec_drill.specs.OfPromise.LawfulEnds.{HasNewDisk, IsLawful}
use Rattle.ec_drill.specs.OfPromise.PlainEnds.{EndsPlainly}
use Rattle.ec_drill.specs.OfPromise.Rooms.{TellsRoom}
use Rattle.ec_drill.specs.OfPromise.Spent.{TellsSpent}
use Rattle.ec_drill.specs.Limits.{most_objects}
use Rattle.ec_drill.specs.declared.status.Status as drilled
use Rattle.ec_echo.specs.Made.{made_lines}
use Rattle.ec_echo.specs.declared.status.Status.{Status}
use Rattle.ec_echo.specs.Soak.{Told, IsUnmade}

-- a drill of the script of this number, from memory to memory, which don't fail
abbrev pub within : ℕ → Option (List ℕ) → List ℕ → Outside → Outside
within number left_after transcript w = record w {
  source = record { bytes = Some (script_of number made_lines); bytes_after = left_after; faults = 0; faults_after = 0 };
  sink = record { bytes = Some []; bytes_after = Some transcript; faults = 0; faults_after = 0 };
}

-- The script of this number was drilled over the disk, and what its transcript tells was written. The transcript's lines are lawful, and on a new disk the drill is
-- complete: each made script is plain.
pub record Drills (number : ℕ) (result : Status) (w : Outside) : Type 0 where
  pub left_after : Option (List ℕ)
  pub transcript : List ℕ
  pub end : drilled.Status
  pub drilled_so : Drilled most_objects end (within number left_after transcript w)
  pub lawful : IsLawful most_objects end (within number left_after transcript w) drilled_so
  pub complete : HasNewDisk w → EndsPlainly most_objects end (within number left_after transcript w) drilled_so
  pub room : TellsRoom most_objects end (within number left_after transcript w) drilled_so
  pub spent : TellsSpent most_objects end (within number left_after transcript w) drilled_so
  pub told : Told number end transcript result w.sink.bytes w.sink.bytes_after w.sink.faults w.sink.faults_after

abbrev pub Soaked : ℕ → Status → Outside → Type 0
Soaked number result w = Drills number result w ⊎ IsUnmade result w
