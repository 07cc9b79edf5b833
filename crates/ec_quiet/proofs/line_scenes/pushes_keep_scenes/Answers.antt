use Rattle.ec_quiet.proofs.PushScenes.{pushed}
use Rattle.ec_quiet.proofs.line_scenes.pushes_keep_scenes.Goals as goal

pub returns : goal.returns
returns c w sc a n k i there issued unspent = pushed w sc i a n k unspent issued
