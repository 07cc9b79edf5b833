-- What a fault of placing tells.
use Rattle.std.specs.Prelude.{◌⊎◌, ℕ, List, [], ⊤}
use Rattle.ec_history.specs.Legal.{from_formatted}
use Rattle.ec_history.specs.Placing.{place, ArePlaceable}
use Rattle.ec_history.specs.declared.shown.Shown.{Shown}
use Rattle.ec_lines.specs.Faults.{IsFirstLine}
use Rattle.ec_judge.specs.Faults.{IsFirstEntry}
use Rattle.ec_judge.specs.declared.fault.HistoryFault.{HistoryFault}
use Rattle.ec_judge.specs.declared.fault.HistoryFault.TheVariants as fault

abbrev pub IsPlaceFault : List Shown → HistoryFault → Type 0
IsPlaceFault ss (fault.At p r) = IsFirstLine ss p r
IsPlaceFault ss fault.NoMemory = ⊤

-- What a fault of placing and judging tells: the line at this place, from 1, is the first that may not follow those above it; or all
-- may, and the entry of this line is the first that breaks a rule. In both cases this is the first rule that it breaks.
abbrev pub IsJudgeFault : ℕ → List Shown → HistoryFault → Type 0
IsJudgeFault most ss (fault.At p r) = IsFirstLine ss p r ⊎ (ArePlaceable [] ss × IsFirstEntry from_formatted most (place ss) p r)
IsJudgeFault most ss fault.NoMemory = ⊤
