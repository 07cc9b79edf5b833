use Rattle.ec_history.proofs.OfLaws.ForPlacing.Left.{loss-fits, lawful-fits, loss-kept}
use Rattle.ec_history.proofs.laws.removal.what_an_untouched_loss_leaves_fits.Goals as goal

pub returns-clause-without : goal.returns-clause-without
returns-clause-without c = loss-fits

pub returns-clause-lawful : goal.returns-clause-lawful
returns-clause-lawful c = lawful-fits

pub returns-clause-kept : goal.returns-clause-kept
returns-clause-kept c = loss-kept
