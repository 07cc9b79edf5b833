-- What the lines are that bytes were read as.
use Rattle.std.specs.Prelude.{ℕ, List}
use Rattle.ec_history.specs.declared.shown.Shown.{Shown}
use Rattle.ec_script.specs.Lines.{lines_of}
use Rattle.ec_legal.specs.OfTranscript.Lines.{AreShown}
use Rattle.ec_check.specs.declared.checking.Checked.{Checked}
use Rattle.ec_check.specs.declared.checking.Checked.TheVariants as checked
use Rattle.ec_check.specs.Verdicts.{IsVerdict}

-- The lines of the bytes are read so, and this is what they are.
pub record IsJudged (most : ℕ) (bytes : List ℕ) (checked : Checked) : Type 0 where
  pub shown : List Shown
  pub lines : AreShown (lines_of bytes) shown
  pub verdict : IsVerdict most shown checked
