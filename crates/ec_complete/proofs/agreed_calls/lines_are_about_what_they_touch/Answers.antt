use Rattle.ec_complete.proofs.ForLines.About.{lines-about}
use Rattle.ec_complete.proofs.agreed_calls.lines_are_about_what_they_touch.Goals as goal

pub returns : goal.returns
returns c = lines-about
