use Rattle.std.proofs.Common.{map}
use Rattle.std.specs.String.{string_bytes}
use Rattle.ec_echo.proofs.OfNamed.Words.{asked-else}
use Rattle.ec_echo.proofs.command.command_of.Goals as goal

pub returns-in-None : goal.returns-in-None
returns-in-None c = asked-else (map string_bytes c.args.words.now) c.in-None.ensures c.short_command.result c.short_command.ensures
