-- Faults that name an operand at which an update doesn't fit.
use Rattle.std.specs.Prelude.{◌≡◌, Some}
use Rattle.ec_volume.specs.Update.{operands, first_unfit}
use Rattle.ec_volume.specs.Volume.{Images}
use Rattle.ec_volume.specs.declared.update.Update.{Update}
use Rattle.ec_volume.specs.declared.volume.ApplyFault.{ApplyFault}
use Rattle.ec_volume.specs.declared.volume.ApplyFault.TheVariants as fault

-- a fault that names an object names the first operand at which the update doesn't fit
abbrev pub Unfits : ApplyFault → Update → Images → Type 0
Unfits (fault.Unfit o) u v = first_unfit u v (operands u) ≡ Some o
Unfits fault.NoMemory u v = Unit {0}
