use Rattle.ec_streams.specs.OfFrame.StreamLaws.{one_reading}
use Rattle.ec_streams.proofs.frame.laws.one_reading.Goals as goal

pub returns : goal.returns
returns c = one_reading
