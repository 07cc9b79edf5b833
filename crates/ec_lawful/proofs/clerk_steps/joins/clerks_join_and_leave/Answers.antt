use Rattle.ec_lawful.proofs.OfClerkSteps.ForJoins.Hellos.{hello-cuts, hello-stands}
use Rattle.ec_lawful.proofs.OfClerkSteps.ForJoins.Joined.{opened-cuts, opened-go}
use Rattle.ec_lawful.proofs.OfClerkSteps.ForJoins.OutsideChanges.{outside-all, outside-cuts}
use Rattle.ec_lawful.proofs.OfClerkSteps.ForJoins.Leaving.{ended-stands}
use Rattle.ec_lawful.proofs.clerk_steps.joins.clerks_join_and_leave.Goals as goal

pub returns-clause-hello : goal.returns-clause-hello
returns-clause-hello z g c b d γ st = (hello-stands g c b d γ st, hello-cuts g c b d γ st)

pub returns-clause-outside : goal.returns-clause-outside
returns-clause-outside z g all c b k now at-start without on same_side same_ids same_log same_asking calls ms sent fits logs = (
  outside-all g all c b k now at-start without on same_side same_ids same_log same_asking calls ms sent fits logs,
  outside-cuts g all c b k now at-start without on same_side same_ids same_log same_asking calls ms sent fits logs,
)

pub returns-clause-opened : goal.returns-clause-opened
returns-clause-opened z g c b d γ st without outside age s e owns fits its-age = (
  opened-go g c b d γ st without outside age s e owns fits its-age,
  opened-cuts g c b d γ st without outside age s e owns fits its-age,
)

pub returns-clause-ended : goal.returns-clause-ended
returns-clause-ended z = ended-stands
