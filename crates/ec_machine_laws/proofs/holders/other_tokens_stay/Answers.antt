use Rattle.ec_sessions.specs.OfTokens.Laws.{token-granted}
use Rattle.ec_machine_laws.proofs.Given.{lowered-tokens, ids-tokens, ids-sound}
use Rattle.ec_machine_laws.proofs.holders.other_tokens_stay.Goals as goal

pub returns-clause-granted : goal.returns-clause-granted
returns-clause-granted c = token-granted

pub returns-clause-lowered : goal.returns-clause-lowered
returns-clause-lowered c = lowered-tokens

pub returns-clause-ids : goal.returns-clause-ids
returns-clause-ids c = ids-tokens

pub returns-clause-sound : goal.returns-clause-sound
returns-clause-sound c = ids-sound
