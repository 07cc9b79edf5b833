use Rattle.ec_lawful.proofs.OfClerkSteps.ForCalls.Settled.{late-settled, settled}
use Rattle.ec_lawful.proofs.clerk_steps.calls.answers_cover_what_is_durable.Goals as goal

pub returns-clause-settled : goal.returns-clause-settled
returns-clause-settled z g all q c b k w l at live sees passes most a op rest gives = settled g all.0 all.3 q c b k w l at live sees passes most a op rest gives

pub returns-clause-late : goal.returns-clause-late
returns-clause-late z g all q c b s k ks w l at owns sees window knows cut lost passes most a op rest gives = late-settled g all.0 all.3 q c b k w l at s ks owns sees window knows cut lost passes most a op rest gives
