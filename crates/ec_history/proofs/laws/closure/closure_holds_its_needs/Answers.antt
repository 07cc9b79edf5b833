use Rattle.ec_history.proofs.OfLaws.ForPlacing.Least.{closure-needed, closure-within}
use Rattle.ec_history.proofs.laws.closure.closure_holds_its_needs.Goals as goal

pub returns-clause-needs : goal.returns-clause-needs
returns-clause-needs c = closure-needed

pub returns-clause-within : goal.returns-clause-within
returns-clause-within c = closure-within
