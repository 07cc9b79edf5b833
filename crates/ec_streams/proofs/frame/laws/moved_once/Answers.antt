use Rattle.ec_streams.specs.OfFrame.StreamLaws.{moved_once}
use Rattle.ec_streams.proofs.frame.laws.moved_once.Goals as goal

pub returns : goal.returns
returns c = moved_once
