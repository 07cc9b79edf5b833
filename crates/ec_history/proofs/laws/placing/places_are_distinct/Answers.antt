use Rattle.ec_history.proofs.OfLaws.ForPlacing.Places.{places-within, places-distinct}
use Rattle.ec_history.proofs.laws.placing.places_are_distinct.Goals as goal

pub returns-clause-within : goal.returns-clause-within
returns-clause-within c = places-within

pub returns-clause-apart : goal.returns-clause-apart
returns-clause-apart c = places-distinct
