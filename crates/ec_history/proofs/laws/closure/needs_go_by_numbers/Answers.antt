use Rattle.ec_history.proofs.OfLaws.ForPlacing.Least.{needed-by_number, needed-from_numbers}
use Rattle.ec_history.proofs.laws.closure.needs_go_by_numbers.Goals as goal

pub returns-clause-by : goal.returns-clause-by
returns-clause-by c = needed-by_number

pub returns-clause-from : goal.returns-clause-from
returns-clause-from c = needed-from_numbers
