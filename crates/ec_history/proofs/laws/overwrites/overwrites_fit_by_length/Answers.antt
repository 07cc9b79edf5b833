use Rattle.ec_history.proofs.OfLaws.ForPlacing.Overwriting.{overwrite-by}
use Rattle.ec_history.proofs.laws.overwrites.overwrites_fit_by_length.Goals as goal

pub returns : goal.returns
returns c = overwrite-by
