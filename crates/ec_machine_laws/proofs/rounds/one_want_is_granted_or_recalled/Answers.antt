use Rattle.ec_machine_laws.proofs.Wanting.{one-granted, one-left, one-recalled, one-stays}
use Rattle.ec_machine_laws.proofs.rounds.one_want_is_granted_or_recalled.Goals as goal

pub returns-clause-granted : goal.returns-clause-granted
returns-clause-granted c = one-granted

pub returns-clause-left : goal.returns-clause-left
returns-clause-left c = one-left

pub returns-clause-recalled : goal.returns-clause-recalled
returns-clause-recalled c = one-recalled

pub returns-clause-stays : goal.returns-clause-stays
returns-clause-stays c = one-stays
