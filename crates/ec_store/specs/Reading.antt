-- What is read of a disk.
use Rattle.std.specs.Prelude.{◌+◌, ℕ, min}
use Rattle.ec_codes.specs.declared.fault.CodeFault.{CodeFault}
use Rattle.ec_codes.specs.declared.fault.CodeFault.TheVariants.{Short, Field, NoMemory}

-- where a fault in a part of a disk of this length shows; that of a disk which ends too early shows at its end
abbrev pub place_of : ℕ → ℕ → CodeFault → ℕ
place_of len at (Short p) = min len (at + p)
place_of len at (Field p) = at + p
place_of len at NoMemory = at
