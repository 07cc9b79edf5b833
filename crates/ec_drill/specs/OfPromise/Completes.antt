-- A source that has a plain script.
use Rattle.std.specs.Prelude.{◌≡◌, ◌≤◌, ℕ, List, length, Option, Some}
use Rattle.ec_script.specs.Lines.{lines_of}
use Rattle.ec_protocol.specs.Drill.{Read}
use Rattle.ec_complete.specs.PlainScripts.{IsPlainScript}
use Rattle.ec_drill.specs.Limits.{most_bytes, most_lines}
use Rattle.ec_drill.specs.Script.{AreRead}

-- A source that has this left tells its bytes. They are a script within the limits, and it's plain as its lines are read.
pub record GivesPlainScript (most : ℕ) (left : Option (List ℕ)) : Type 0 where
  pub script : List ℕ
  pub gives : left ≡ Some script
  pub few_bytes : length script ≤ most_bytes
  pub few_lines : length (lines_of script) ≤ most_lines
  pub plain : (reads : List Read) → AreRead (lines_of script) reads → IsPlainScript most reads
