use Rattle.ec_history.proofs.OfLaws.ForPlacing.Removed.{removal-on, removal, removal-rest}
use Rattle.ec_history.proofs.laws.removal.what_a_closed_loss_leaves_fits.Goals as goal

pub returns-clause-object : goal.returns-clause-object
returns-clause-object c = removal-on

pub returns-clause-volume : goal.returns-clause-volume
returns-clause-volume c = removal

pub returns-clause-rest : goal.returns-clause-rest
returns-clause-rest c = removal-rest
