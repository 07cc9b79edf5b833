-- Which commands are over a mount table.
use Rattle.std.specs.Prelude.{⊤}
use Rattle.ec_echo.specs.declared.command.Command.{Command}
use Rattle.ec_echo.specs.declared.command.Command.TheVariants.{Drill, Check, Make, Soak, Serve, Mount, Leases, MountTable}

abbrev pub IsTable : Command → Type 0
IsTable (Drill most) = ⊥
IsTable (Check most) = ⊥
IsTable (Make n) = ⊥
IsTable (Soak n) = ⊥
IsTable (Serve n) = ⊥
IsTable (Mount c) = ⊥
IsTable (Leases l e) = ⊥
IsTable (MountTable c) = ⊤
