use Rattle.ec_sessions.specs.OfTokens.Laws.{one_list}
use Rattle.ec_sessions.proofs.tokens.laws.one_list.Goals as goal

pub returns : goal.returns
returns c = one_list
