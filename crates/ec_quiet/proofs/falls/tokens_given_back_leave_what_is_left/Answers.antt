use Rattle.ec_quiet.proofs.Falling.{back-same, last-same, own-same}
use Rattle.ec_quiet.proofs.falls.tokens_given_back_leave_what_is_left.Goals as goal

pub returns-clause-back : goal.returns-clause-back
returns-clause-back c = back-same

pub returns-clause-granted : goal.returns-clause-granted
returns-clause-granted c = last-same

pub returns-clause-own : goal.returns-clause-own
returns-clause-own c = own-same
