use Rattle.ec_complete.proofs.PlainScripts.{plain-scripts-complete}
use Rattle.ec_complete.proofs.plain_scripts.plain_scripts_are_complete.Goals as goal

pub returns : goal.returns
returns c = plain-scripts-complete
