use Rattle.ec_history.proofs.OfLaws.ForPlacing.Objects.{after-same, fits-same}
use Rattle.ec_history.proofs.laws.projection.equal_projections_are_enough.Goals as goal

pub returns-clause-leave : goal.returns-clause-leave
returns-clause-leave c = after-same

pub returns-clause-fit : goal.returns-clause-fit
returns-clause-fit c = fits-same
