-- Legal transcripts, and the first fault of one that isn't.
use Rattle.std.specs.Prelude.{◌⊎◌, ℕ, List, []}
use Rattle.ec_history.specs.Legal.{IsLegal, from_formatted}
use Rattle.ec_history.specs.Placing.{place, ArePlaceable}
use Rattle.ec_history.specs.declared.rule.Rule.{Rule}
use Rattle.ec_history.specs.declared.shown.Shown.{Shown}
use Rattle.ec_judge.specs.Faults.{IsFirstEntry}
use Rattle.ec_lines.specs.Faults.{IsFirstLine}
use Rattle.ec_check.specs.declared.checking.Checked.{Checked}
use Rattle.ec_check.specs.declared.checking.Checked.TheVariants as checked

-- Each line may follow those above it, and their history is legal on a formatted volume with at most so many objects.
abbrev pub IsLegalTranscript : ℕ → List Shown → Type 0
IsLegalTranscript most ss = ArePlaceable [] ss × IsLegal from_formatted most (place ss)

-- The line at this place, from 1, is the first that may not follow those above it; or all may, and the entry of this line is the
-- first that breaks a rule. In both cases this is the first rule that it breaks.
abbrev pub IsFirstFault : ℕ → List Shown → ℕ → Rule → Type 0
IsFirstFault most ss p r = IsFirstLine ss p r ⊎ (ArePlaceable [] ss × IsFirstEntry from_formatted most (place ss) p r)

abbrev pub IsVerdict : ℕ → List Shown → Checked → Type 0
IsVerdict most ss checked.Legal = IsLegalTranscript most ss
IsVerdict most ss (checked.Illegal p r) = ¬ (IsLegalTranscript most ss) × IsFirstFault most ss p r
