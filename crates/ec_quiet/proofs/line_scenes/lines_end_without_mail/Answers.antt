use Rattle.ec_quiet.proofs.Ending.{ends}
use Rattle.ec_quiet.proofs.line_scenes.lines_end_without_mail.Goals as goal

pub returns : goal.returns
returns c w sc i none = ends w sc i none
