-- What a fault of a history tells.
use Rattle.std.specs.Prelude.{ℕ, ⊤}
use Rattle.ec_history.specs.History.{History}
use Rattle.ec_history.specs.Legal.{from_formatted}
use Rattle.ec_judge.specs.Faults.{IsFirstEntry}
use Rattle.ec_judge.specs.declared.fault.HistoryFault.{HistoryFault}
use Rattle.ec_judge.specs.declared.fault.HistoryFault.TheVariants as fault

abbrev pub IsEntryFault : ℕ → History → HistoryFault → Type 0
IsEntryFault most h (fault.At p r) = IsFirstEntry from_formatted most h p r
IsEntryFault most h fault.NoMemory = ⊤
