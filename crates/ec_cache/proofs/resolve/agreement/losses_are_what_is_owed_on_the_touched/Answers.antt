use Rattle.ec_cache.proofs.OfResolve.Verdicts.{lost-says}
use Rattle.ec_cache.proofs.resolve.agreement.losses_are_what_is_owed_on_the_touched.Goals as goal

pub returns : goal.returns
returns c = lost-says
