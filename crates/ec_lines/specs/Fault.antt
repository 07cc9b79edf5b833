-- What a fault of the lines tells.
use Rattle.std.specs.Prelude.{List, ⊤}
use Rattle.ec_history.specs.declared.shown.Shown.{Shown}
use Rattle.ec_lines.specs.Faults.{IsFirstLine}
use Rattle.ec_lines.specs.declared.fault.PlaceFault.{PlaceFault}
use Rattle.ec_lines.specs.declared.fault.PlaceFault.TheVariants as fault

abbrev pub IsPlaceFault : List Shown → PlaceFault → Type 0
IsPlaceFault ss (fault.At p r) = IsFirstLine ss p r
IsPlaceFault ss fault.NoMemory = ⊤
