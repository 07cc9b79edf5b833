use Rattle.ec_lawful.proofs.OfClerkSteps.ForJoins.Calm.{are-calm}
use Rattle.ec_lawful.proofs.OfClerkSteps.ForJoins.Going.{calm-keeps, kept-keeps, late-keeps, plain-keeps, steps-keep-counts}
use Rattle.ec_lawful.proofs.clerk_steps.joins.cut_off_starts_know_what_they_do.Goals as goal

pub returns-clause-calm : goal.returns-clause-calm
returns-clause-calm z = calm-keeps

pub returns-clause-functions : goal.returns-clause-functions
returns-clause-functions z = are-calm

pub returns-clause-batches : goal.returns-clause-batches
returns-clause-batches z = kept-keeps

pub returns-clause-plain : goal.returns-clause-plain
returns-clause-plain z g h c b k now l cl a op ans same_frozen how cuts = plain-keeps g h c b k now l cl a op ans same_frozen how cuts

pub returns-clause-late : goal.returns-clause-late
returns-clause-late z g h all c b s k now l cl a place u ks ans owns frozen issued more cuts = late-keeps g h all c b s k now l cl a place u ks ans owns frozen issued more cuts

pub returns-clause-counts : goal.returns-clause-counts
returns-clause-counts z = steps-keep-counts
