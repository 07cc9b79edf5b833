use Rattle.ec_complete.proofs.OfAgreedLines.Suited.{ids-counted, numbers-given}
use Rattle.ec_complete.proofs.agreed_lines.agreed_phases.grants_are_numbered.Goals as goal

pub returns-clause-tokens : goal.returns-clause-tokens
returns-clause-tokens c = numbers-given

pub returns-clause-ids : goal.returns-clause-ids
returns-clause-ids c = ids-counted
