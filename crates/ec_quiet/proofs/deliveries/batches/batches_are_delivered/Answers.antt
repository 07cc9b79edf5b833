use Rattle.ec_quiet.proofs.OfDeliveries.Committed.{holders-flush, clerks-save}
use Rattle.ec_quiet.proofs.deliveries.batches.batches_are_delivered.Goals as goal

pub returns-clause-holder : goal.returns-clause-holder
returns-clause-holder c = holders-flush

pub returns-clause-own : goal.returns-clause-own
returns-clause-own c = clerks-save
