use Rattle.ec_quiet.specs.SettlingScenes.{here}
use Rattle.ec_quiet.proofs.Settled.{settles}
use Rattle.ec_quiet.proofs.scenes.phases_settle.Goals as goal

pub returns : goal.returns
returns c j k m sc p well f i q l = settles j m well k m sc p here f i q l
