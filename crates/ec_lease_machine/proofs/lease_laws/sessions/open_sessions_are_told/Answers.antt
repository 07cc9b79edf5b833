use Rattle.std.specs.Prelude.{refl, true}
use Rattle.ec_lease_machine.proofs.OfLeaseLaws.Open.{told}
use Rattle.ec_lease_machine.proofs.lease_laws.sessions.open_sessions_are_told.Goals as goal

pub returns : goal.returns
returns z g all c b s k run there o = told g all c b s k run there true o refl
