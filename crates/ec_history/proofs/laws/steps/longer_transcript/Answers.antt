use Rattle.ec_history.proofs.OfLaws.ForPlacing.More.{watch-append, watch-step, durable-append, durable-step, last_place-step, before_line-append}
use Rattle.ec_history.proofs.laws.steps.longer_transcript.Goals as goal

pub returns-clause-shows : goal.returns-clause-shows
returns-clause-shows c = watch-append

pub returns-clause-shows_next : goal.returns-clause-shows_next
returns-clause-shows_next c = watch-step

pub returns-clause-stores : goal.returns-clause-stores
returns-clause-stores c = durable-append

pub returns-clause-stores_next : goal.returns-clause-stores_next
returns-clause-stores_next c = durable-step

pub returns-clause-places_next : goal.returns-clause-places_next
returns-clause-places_next c = last_place-step

pub returns-clause-begins : goal.returns-clause-begins
returns-clause-begins c = before_line-append
