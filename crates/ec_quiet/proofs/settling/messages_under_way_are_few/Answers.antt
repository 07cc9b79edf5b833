use Rattle.ec_quiet.proofs.Mail.{few, pending-is}
use Rattle.ec_quiet.proofs.settling.messages_under_way_are_few.Goals as goal

pub returns-clause-few : goal.returns-clause-few
returns-clause-few z j sc p q = few j sc p q

pub returns-clause-pending : goal.returns-clause-pending
returns-clause-pending z w sc i = pending-is w sc i
