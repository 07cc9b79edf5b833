use Rattle.ec_quiet.proofs.OfDeliveries.Greeted.{greetings-open}
use Rattle.ec_quiet.proofs.deliveries.sessions.greetings_are_delivered.Goals as goal

pub returns : goal.returns
returns c = greetings-open
