use Rattle.ec_history.proofs.OfLaws.ForPlacing.Least.{closure-more, closure-rest}
use Rattle.ec_history.proofs.laws.closure.closure_goes_by_the_rest.Goals as goal

pub returns-clause-within : goal.returns-clause-within
returns-clause-within c = closure-more

pub returns-clause-rest : goal.returns-clause-rest
returns-clause-rest c = closure-rest
