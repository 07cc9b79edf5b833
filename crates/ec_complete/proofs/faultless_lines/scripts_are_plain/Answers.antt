use Rattle.ec_complete.proofs.ForFaultless.Scripts.{scripts-plain}
use Rattle.ec_complete.proofs.faultless_lines.scripts_are_plain.Goals as goal

pub returns : goal.returns
returns c = scripts-plain
