use Rattle.ec_quiet.proofs.OfDeliveries.Idling.{like-wants, like-grant, like-back, like-record, like-both}
use Rattle.ec_quiet.proofs.deliveries.idle.changes_leave_other_sessions.Goals as goal

pub returns-clause-wants : goal.returns-clause-wants
returns-clause-wants c = like-wants

pub returns-clause-grant : goal.returns-clause-grant
returns-clause-grant c = like-grant

pub returns-clause-back : goal.returns-clause-back
returns-clause-back c = like-back

pub returns-clause-record : goal.returns-clause-record
returns-clause-record c = like-record

pub returns-clause-both : goal.returns-clause-both
returns-clause-both c = like-both
