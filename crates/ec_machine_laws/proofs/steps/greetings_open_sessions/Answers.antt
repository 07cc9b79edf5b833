use Rattle.ec_machine_laws.proofs.Stepping.{greeting-opens}
use Rattle.ec_machine_laws.proofs.steps.greetings_open_sessions.Goals as goal

pub returns : goal.returns
returns c = greeting-opens
