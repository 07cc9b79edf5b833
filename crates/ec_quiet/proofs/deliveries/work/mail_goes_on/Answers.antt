use Rattle.ec_quiet.proofs.OfDeliveries.Working.{keeps-backs, main-joins, main-front}
use Rattle.ec_quiet.proofs.deliveries.work.mail_goes_on.Goals as goal

pub returns-clause-backs : goal.returns-clause-backs
returns-clause-backs c = keeps-backs

pub returns-clause-main : goal.returns-clause-main
returns-clause-main c = main-joins

pub returns-clause-front : goal.returns-clause-front
returns-clause-front c = main-front
