use Rattle.ec_history.proofs.OfLaws.ForPlacing.Objects.{fits-operands, fits-tried}
use Rattle.ec_history.proofs.laws.projection.operands_are_enough.Goals as goal

pub returns-clause-one : goal.returns-clause-one
returns-clause-one c = fits-operands

pub returns-clause-list : goal.returns-clause-list
returns-clause-list c = fits-tried
