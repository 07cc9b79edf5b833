use Rattle.ec_volume.proofs.Fitting.{first_fits, last_fits, joined_fit, joined_after}
use Rattle.ec_volume.proofs.laws.lists_fit_one_by_one.Goals as goal

pub returns-clause-empty : goal.returns-clause-empty
returns-clause-empty c = λ _ _. tt

pub returns-clause-first : goal.returns-clause-first
returns-clause-first c = first_fits

pub returns-clause-last : goal.returns-clause-last
returns-clause-last c = last_fits

pub returns-clause-joined : goal.returns-clause-joined
returns-clause-joined c = joined_fit

pub returns-clause-after : goal.returns-clause-after
returns-clause-after c = joined_after
