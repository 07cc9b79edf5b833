-- Which commands use the disk.
use Rattle.std.specs.Prelude.{Bool, true, false}
use Rattle.ec_echo.specs.declared.command.Command.{Command}
use Rattle.ec_echo.specs.declared.command.Command.TheVariants.{Drill, Check, Make, Soak, Serve, Mount, Leases, MountTable}

abbrev pub uses_disk : Command → Bool
uses_disk (Drill most) = true
uses_disk (Check most) = false
uses_disk (Make n) = false
uses_disk (Soak n) = true
uses_disk (Serve n) = true
uses_disk (Mount c) = false
uses_disk (Leases l e) = true
uses_disk (MountTable c) = false
