-- What a check of a source's bytes tells.
use Rattle.std.specs.Prelude.{◌≡◌, ◌+◌, ℕ, List, Option, ⊤}
use Rattle.ec_base.specs.Outside.{Rose}
use Rattle.ec_history.specs.declared.shown.Shown.{Shown}
use Rattle.ec_script.specs.Lines.{lines_of}
use Rattle.ec_streams.specs.Streams.{ReadWhole, ReadFailed}
use Rattle.ec_streams.specs.declared.streams.ReadFault.TheVariants as read
use Rattle.ec_legal.specs.OfTranscript.Limits.{max_transcript_bytes}
use Rattle.ec_legal.specs.OfTranscript.Lines.{AreShown, IsBadLine}
use Rattle.ec_check.specs.Verdicts.{IsVerdict}
use Rattle.ec_check.specs.declared.checking.Checked.{Checked}
use Rattle.ec_check.specs.declared.checking.CheckFault.{CheckFault}
use Rattle.ec_check.specs.declared.checking.CheckFault.TheVariants as fault

-- The source gave these bytes and came to its end; their lines are read so; and this is what they are.
pub record IsChecked (old new : Option (List ℕ)) (most : ℕ) (checked : Checked) : Type 0 where
  pub bytes : List ℕ
  pub shown : List Shown
  pub whole : ReadWhole old new max_transcript_bytes bytes
  pub lines : AreShown (lines_of bytes) shown
  pub verdict : IsVerdict most shown checked

-- The source gave these bytes and came to its end, and this is their first line outside the grammar.
pub record IsBadTranscript (old new : Option (List ℕ)) (number column : ℕ) : Type 0 where
  pub bytes : List ℕ
  pub whole : ReadWhole old new max_transcript_bytes bytes
  pub bad : IsBadLine bytes number column

-- Why there is no verdict, by the bytes that are left of the source and by its faults, before and after.
abbrev pub IsRefused : Option (List ℕ) → Option (List ℕ) → ℕ → ℕ → CheckFault → Type 0
IsRefused old new before now (fault.BadLine n column) = IsBadTranscript old new n column
IsRefused old new before now fault.SourceFailed = Rose before now
IsRefused old new before now (fault.Limit n) = (n ≡ max_transcript_bytes + 1) × ReadFailed old new before now max_transcript_bytes read.TooMany
IsRefused old new before now fault.NoMemory = ⊤
