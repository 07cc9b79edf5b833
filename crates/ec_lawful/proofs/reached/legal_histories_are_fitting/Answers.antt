use Rattle.ec_lawful.proofs.Entries.{are-fitting}
use Rattle.ec_lawful.proofs.reached.legal_histories_are_fitting.Goals as goal

pub returns : goal.returns
returns z base most ss is bounded legal = are-fitting base most ss is bounded legal
