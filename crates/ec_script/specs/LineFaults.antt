-- The fault of a line whose words are refused.
use Rattle.std.specs.Prelude.{ℕ, List}
use Rattle.ec_words.specs.declared.cursor.Misfit.{Misfit}
use Rattle.ec_words.specs.declared.cursor.Misfit.TheVariants as misfit
use Rattle.ec_words.specs.RowsLeft.{column_left}
use Rattle.ec_script.specs.declared.line.LineFault.{LineFault}
use Rattle.ec_script.specs.declared.line.LineFault.TheVariants as fault

-- the fault of a line whose words are refused so
abbrev pub fault_at : List ℕ → Misfit → LineFault
fault_at bytes (misfit.Unfit n) = fault.At (column_left bytes n)
fault_at bytes misfit.NoMemory = fault.NoMemory
