use Rattle.ec_stands.specs.FirstPlace.{one_first_place}
use Rattle.ec_stands.specs.Laws.{one_state, not_both}
use Rattle.ec_stands.proofs.laws.images_stand_for_one_state.Goals as goal

pub returns-clause-one : goal.returns-clause-one
returns-clause-one c = one_state

pub returns-clause-not_both : goal.returns-clause-not_both
returns-clause-not_both c = not_both

pub returns-clause-first : goal.returns-clause-first
returns-clause-first c = one_first_place
