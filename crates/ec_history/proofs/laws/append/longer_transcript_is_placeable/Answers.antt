use Rattle.ec_history.proofs.OfLaws.ForPlacing.Cuts.{placeable-step, placeable-join, placeable-split}
use Rattle.ec_history.proofs.laws.append.longer_transcript_is_placeable.Goals as goal

pub returns-clause-one_more : goal.returns-clause-one_more
returns-clause-one_more c = placeable-step

pub returns-clause-more : goal.returns-clause-more
returns-clause-more c = placeable-join

pub returns-clause-cut : goal.returns-clause-cut
returns-clause-cut c = placeable-split
