use Rattle.ec_history.proofs.OfLaws.ForPlacing.Sets.{same-self, rising-same}
use Rattle.ec_history.proofs.laws.placing.rising_lists_are_sets.Goals as goal

pub returns-clause-own : goal.returns-clause-own
returns-clause-own c = same-self

pub returns-clause-rising : goal.returns-clause-rising
returns-clause-rising c = rising-same
