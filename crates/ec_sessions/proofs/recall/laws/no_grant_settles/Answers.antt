use Rattle.ec_sessions.specs.OfRecall.Laws.{settled}
use Rattle.ec_sessions.proofs.recall.laws.no_grant_settles.Goals as goal

pub returns-clause-actions : goal.returns-clause-actions
returns-clause-actions c = λ ts ws none. (settled ts ws none).0

pub returns-clause-wants : goal.returns-clause-wants
returns-clause-wants c = λ ts ws none. (settled ts ws none).1
