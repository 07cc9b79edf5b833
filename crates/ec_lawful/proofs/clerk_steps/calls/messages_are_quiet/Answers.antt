use Rattle.ec_lawful.proofs.OfClerkSteps.ForCalls.Quiets.{leaves-resend, quiet-evict, quiet-hello, quiet-prepared, quiet-pushed, quiet-resend, quiet-taken}
use Rattle.ec_lawful.proofs.OfClerkSteps.ForCalls.Still.{quiet-same, quiet-then}
use Rattle.ec_lawful.proofs.clerk_steps.calls.messages_are_quiet.Goals as goal

pub returns-clause-quiet : goal.returns-clause-quiet
returns-clause-quiet z = record { prepared = quiet-prepared; evict = quiet-evict; push = quiet-pushed; hello = quiet-hello; resend = quiet-resend; taken = quiet-taken; still = quiet-same; on = quiet-then }

pub returns-clause-again : goal.returns-clause-again
returns-clause-again z = leaves-resend
