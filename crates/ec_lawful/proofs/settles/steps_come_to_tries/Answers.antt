use Rattle.ec_lawful.proofs.ForBegins.Beginning.{begins, begins-pushed}
use Rattle.ec_lawful.proofs.ForBegins.Plains.{plains-keep}
use Rattle.ec_lawful.proofs.ForBegins.Readying.{evicts-lined, prepares, prepares-call}
use Rattle.ec_lawful.proofs.ForBegins.Waiting.{waits-stand}
use Rattle.ec_lawful.proofs.settles.steps_come_to_tries.Goals as goal

pub returns-clause-begin : goal.returns-clause-begin
returns-clause-begin z g whole c b k runs there = (begins g whole c b k runs there, begins-pushed g whole c b k runs there)

pub returns-clause-ready : goal.returns-clause-ready
returns-clause-ready z = (prepares, evicts-lined)

pub returns-clause-calls : goal.returns-clause-calls
returns-clause-calls z = prepares-call

pub returns-clause-messages : goal.returns-clause-messages
returns-clause-messages z g c b s d γ l session m p own sound f = plains-keep g c b s d γ l session m p own sound f

pub returns-clause-waits : goal.returns-clause-waits
returns-clause-waits z = waits-stand
