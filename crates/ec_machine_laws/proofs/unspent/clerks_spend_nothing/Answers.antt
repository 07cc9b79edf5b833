use Rattle.ec_machine_laws.proofs.Taking.{begins, takes}
use Rattle.ec_machine_laws.proofs.unspent.clerks_spend_nothing.Goals as goal

pub returns-clause-messages : goal.returns-clause-messages
returns-clause-messages z m k may low = takes m k may low

pub returns-clause-calls : goal.returns-clause-calls
returns-clause-calls z cl k counted low = begins cl k counted low
