use Rattle.ec_cache.proofs.OfResolve.Verdicts.{ids-says}
use Rattle.ec_cache.proofs.resolve.agreement.ids_are_wanted_for_new_objects.Goals as goal

pub returns : goal.returns
returns c = ids-says
