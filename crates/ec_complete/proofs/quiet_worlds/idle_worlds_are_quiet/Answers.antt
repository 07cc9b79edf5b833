use Rattle.ec_complete.proofs.ForLines.Quieting.{quiets}
use Rattle.ec_complete.proofs.quiet_worlds.idle_worlds_are_quiet.Goals as goal

pub returns : goal.returns
returns z w g sc sessions calls stands i idle = quiets w g sc sessions calls stands i idle
