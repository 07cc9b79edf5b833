use Rattle.ec_history.proofs.OfLaws.ForPlacing.Objects.{fits-next}
use Rattle.ec_history.proofs.laws.projection.longer_lists_go_on.Goals as goal
use Rattle.ec_volume.proofs.Fitting.{image_joined as after-append, turns_joined as fits-append}

pub returns-clause-leave : goal.returns-clause-leave
returns-clause-leave c = after-append

pub returns-clause-fit : goal.returns-clause-fit
returns-clause-fit c = fits-append

pub returns-clause-fit_next : goal.returns-clause-fit_next
returns-clause-fit_next c = fits-next
