use Rattle.std.proofs.lemmas.Result.{IfOk-weaker}
use Rattle.ec_log.specs.OfChains.Walk.{passes}
use Rattle.ec_log.proofs.OfChains.Taken.{one-ahead, one-within}
use Rattle.ec_log.specs.OfChains.Slots.{placed}
use Rattle.ec_log.proofs.chains.walking.begin.Goals as goal

pub returns-in-Some-clause-ahead : goal.returns-in-Some-clause-ahead
returns-in-Some-clause-ahead c = IfOk-weaker c.one_place.result _ _ (λ places e. one-ahead (passes c.args.ask.now) (placed c.args.held.now) c.in-Some.place places e c.in-Some.ensures) c.one_place.ensures

pub returns-in-Some-clause-within : goal.returns-in-Some-clause-within
returns-in-Some-clause-within c = IfOk-weaker c.one_place.result _ _ (λ places e. one-within c.in-Some.place places _ e c.in-Some.ensures.within) c.one_place.ensures
