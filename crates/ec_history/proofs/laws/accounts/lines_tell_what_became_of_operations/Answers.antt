use Rattle.ec_history.proofs.OfLaws.Telling.{nothing-tells, one-more}
use Rattle.ec_history.proofs.laws.accounts.lines_tell_what_became_of_operations.Goals as goal

pub returns-clause-nothing : goal.returns-clause-nothing
returns-clause-nothing c = nothing-tells

pub returns-clause-more : goal.returns-clause-more
returns-clause-more c base most ss s = one-more base most ss s
