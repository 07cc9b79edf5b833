use Rattle.ec_machine_laws.proofs.Stepping.{recalls-sent, grant-sent}
use Rattle.ec_machine_laws.proofs.steps.recalls_and_grants_are_sent.Goals as goal

pub returns-clause-recalls : goal.returns-clause-recalls
returns-clause-recalls c = recalls-sent

pub returns-clause-grant : goal.returns-clause-grant
returns-clause-grant c = grant-sent
