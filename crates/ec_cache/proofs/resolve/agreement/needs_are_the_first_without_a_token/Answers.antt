use Rattle.ec_cache.proofs.OfResolve.Verdicts.{need-says}
use Rattle.ec_cache.proofs.resolve.agreement.needs_are_the_first_without_a_token.Goals as goal

pub returns : goal.returns
returns c = need-says
