use Rattle.ec_machine_laws.proofs.Stepping.{at-work}
use Rattle.ec_machine_laws.proofs.steps.messages_of_claimed_sessions_are_taken.Goals as goal

pub returns : goal.returns
returns c = λ c ss e sl t w n f. at-work c ss e n f t sl w
