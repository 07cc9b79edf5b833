use Rattle.ec_cache.proofs.OfResolve.Settled.{done-comes}
use Rattle.ec_cache.proofs.OfResolve.Verdicts.{done-says, done-ready}
use Rattle.ec_cache.proofs.resolve.agreement.outcomes_are_those_of_the_volume.Goals as goal

pub returns-clause-comes : goal.returns-clause-comes
returns-clause-comes c = done-comes

pub returns-clause-any_id : goal.returns-clause-any_id
returns-clause-any_id c = done-says

pub returns-clause-ready : goal.returns-clause-ready
returns-clause-ready c = done-ready
