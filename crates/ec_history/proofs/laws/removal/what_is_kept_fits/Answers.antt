use Rattle.ec_history.proofs.OfLaws.ForPlacing.Left.{call-kept, legal-kept}
use Rattle.ec_history.proofs.laws.removal.what_is_kept_fits.Goals as goal

pub returns-clause-call : goal.returns-clause-call
returns-clause-call c = call-kept

pub returns-clause-legal : goal.returns-clause-legal
returns-clause-legal c = legal-kept
