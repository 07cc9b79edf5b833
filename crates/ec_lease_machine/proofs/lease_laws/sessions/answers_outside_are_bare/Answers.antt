use Rattle.ec_lease_machine.proofs.OfLeaseLaws.Outside.{outside-bare}
use Rattle.ec_lease_machine.proofs.lease_laws.sessions.answers_outside_are_bare.Goals as goal

pub returns : goal.returns
returns z = outside-bare
