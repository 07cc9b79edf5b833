use Rattle.ec_protocol.specs.Clerk.{resend}
use Rattle.ec_coherence.specs.Steps.{sends}
use Rattle.ec_coherence.proofs.ForServer.Lists.{each-more}
use Rattle.ec_lawful.proofs.ForBegins.Ending.{steps-end}
use Rattle.ec_lawful.proofs.ForBegins.Resending.{resends-keep}
use Rattle.ec_lawful.specs.OfClerkSteps.Fulls.{IsFullAt}
use Rattle.ec_lawful.proofs.OfClerkSteps.ForNames.Sent.{own-full, resend-own}
use Rattle.ec_lawful.proofs.settles.steps_end_whole.Goals as goal

pub returns-clause-end : goal.returns-clause-end
returns-clause-end z g c b d γ beside l none waits fulls = steps-end g c b γ beside d l none waits fulls

pub returns-clause-resends : goal.returns-clause-resends
returns-clause-resends z g whole c b k runs there = resends-keep g whole c b k runs there (each-more (λ m. IsFullAt g.durable.max_objects m.1) g.pool (sends c (resend k).outs) whole.fulls (own-full c g.durable.max_objects (resend k).outs (resend-own k)))
