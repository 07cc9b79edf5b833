use Rattle.ec_history.proofs.OfLaws.ForPlacing.Least.{list-complete, list-least, list-part, list-sorted}
use Rattle.ec_history.proofs.laws.closure.closure_lists_the_least_set.Goals as goal

pub returns-clause-all : goal.returns-clause-all
returns-clause-all c = list-complete

pub returns-clause-least : goal.returns-clause-least
returns-clause-least c = list-least

pub returns-clause-part : goal.returns-clause-part
returns-clause-part c = list-part

pub returns-clause-sorted : goal.returns-clause-sorted
returns-clause-sorted c = list-sorted
