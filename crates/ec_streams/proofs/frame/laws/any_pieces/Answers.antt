use Rattle.ec_streams.specs.OfFrame.StreamLaws.{messages}
use Rattle.ec_streams.proofs.frame.laws.any_pieces.Goals as goal

pub returns : goal.returns
returns c = messages
