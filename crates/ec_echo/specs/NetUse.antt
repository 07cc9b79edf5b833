-- Which commands use the net, and start threads.
use Rattle.std.specs.Prelude.{Bool, true, false}
use Rattle.ec_echo.specs.declared.command.Command.{Command}
use Rattle.ec_echo.specs.declared.command.Command.TheVariants.{Drill, Check, Make, Soak, Serve, Mount, Leases, MountTable}

abbrev pub uses_net : Command → Bool
uses_net (Drill most) = false
uses_net (Check most) = false
uses_net (Make n) = false
uses_net (Soak n) = false
uses_net (Serve n) = true
uses_net (Mount c) = true
uses_net (Leases l e) = false
uses_net (MountTable c) = true
