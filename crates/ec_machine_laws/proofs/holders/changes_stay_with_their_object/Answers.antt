use Rattle.ec_machine_laws.proofs.Rows.{granted-elsewhere, lowered-elsewhere}
use Rattle.ec_machine_laws.proofs.holders.changes_stay_with_their_object.Goals as goal

pub returns-clause-granted : goal.returns-clause-granted
returns-clause-granted c = granted-elsewhere

pub returns-clause-lowered : goal.returns-clause-lowered
returns-clause-lowered c = lowered-elsewhere
