use Rattle.ec_quiet.proofs.StartScenes.{starts}
use Rattle.ec_quiet.proofs.line_scenes.starts_keep_scenes.Goals as goal

pub returns : goal.returns
returns c w sc a line cl i none = starts w sc a line cl i none
