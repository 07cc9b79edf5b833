use Rattle.ec_words.proofs.OneCall.{call_once}
use Rattle.ec_words.proofs.Bounded.{call_bounded}
use Rattle.ec_words.proofs.laws.spelled_calls.Goals as goal

pub returns-clause-one : goal.returns-clause-one
returns-clause-one c = call_once

pub returns-clause-bounded : goal.returns-clause-bounded
returns-clause-bounded c = call_bounded
