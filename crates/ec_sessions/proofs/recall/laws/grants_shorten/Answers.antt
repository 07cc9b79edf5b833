use Rattle.ec_sessions.specs.OfRecall.Laws.{counted, shorter}
use Rattle.ec_sessions.proofs.recall.laws.grants_shorten.Goals as goal

pub returns-clause-count : goal.returns-clause-count
returns-clause-count c = counted

pub returns-clause-shorter : goal.returns-clause-shorter
returns-clause-shorter c = shorter
