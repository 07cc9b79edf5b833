use Rattle.ec_history.proofs.OfLaws.ForPlacing.Objects.{strangers-after, strangers-fit}
use Rattle.ec_history.proofs.laws.projection.strangers_change_places.Goals as goal

pub returns-clause-leave : goal.returns-clause-leave
returns-clause-leave c = strangers-after

pub returns-clause-fit : goal.returns-clause-fit
returns-clause-fit c = strangers-fit
