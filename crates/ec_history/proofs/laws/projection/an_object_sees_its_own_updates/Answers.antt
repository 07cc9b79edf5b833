use Rattle.ec_history.proofs.OfLaws.ForPlacing.Objects.{projection, projection-fits, stays, fits-elsewhere}
use Rattle.ec_history.proofs.laws.projection.an_object_sees_its_own_updates.Goals as goal

pub returns-clause-leave : goal.returns-clause-leave
returns-clause-leave c = projection

pub returns-clause-fit : goal.returns-clause-fit
returns-clause-fit c = projection-fits

pub returns-clause-stay : goal.returns-clause-stay
returns-clause-stay c = stays

pub returns-clause-none : goal.returns-clause-none
returns-clause-none c = fits-elsewhere
