use Rattle.std.proofs.Common.{[]}
use Rattle.ec_sessions.specs.OfRecall.Laws.{grants_are_clear, go_in}
use Rattle.ec_sessions.proofs.recall.laws.grants_are_clear.Goals as goal

pub returns-clause-apart : goal.returns-clause-apart
returns-clause-apart c = λ ts ws. grants_are_clear ts [] ws

pub returns-clause-recorded : goal.returns-clause-recorded
returns-clause-recorded c = go_in
