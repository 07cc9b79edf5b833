use Rattle.ec_lease_machine.proofs.OfLeaseLaws.Open.{stays}
use Rattle.ec_lease_machine.proofs.lease_laws.sessions.sessions_stay.Goals as goal

pub returns : goal.returns
returns z g all c b s k run there still o r d p f q = stays g all c b s k run there still o r d p f q
