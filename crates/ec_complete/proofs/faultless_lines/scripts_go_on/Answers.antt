use Rattle.ec_complete.proofs.ForFaultless.Scripts.{scripts-go-on, scripts-settle}
use Rattle.ec_complete.proofs.faultless_lines.scripts_go_on.Goals as goal

pub returns-clause-on : goal.returns-clause-on
returns-clause-on c = scripts-go-on

pub returns-clause-settle : goal.returns-clause-settle
returns-clause-settle c = scripts-settle
