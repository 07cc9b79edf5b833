use Rattle.ec_wire.specs.declared.msg.Msg.TheVariants.{Grant, Ids, Kept, Recall, Restarted}
use Rattle.ec_lawful.proofs.OfClerkSteps.ForDoings.Restarting.{takes-restarted}
use Rattle.ec_lawful.proofs.OfClerkSteps.ForDoings.Taking.{takes-grant, takes-kept, takes-recall}
use Rattle.ec_lawful.proofs.OfClerkSteps.ForDoings.TakingIds.{takes-ids}
use Rattle.ec_lawful.proofs.clerk_steps.doings.clerks_may_take.Goals as goal

pub returns-clause-grants : goal.returns-clause-grants
returns-clause-grants z g c b s d γ i (Grant t e x n m o) p f sound fits = takes-grant g c b s d γ i t e x n m o fits
returns-clause-grants z g c b s d γ i _ p f sound fits = absurd p

pub returns-clause-recalls : goal.returns-clause-recalls
returns-clause-recalls z g c b s d γ i (Recall t e x n m) p f sound fits = takes-recall g c b s d γ i t e x n m sound fits
returns-clause-recalls z g c b s d γ i _ p f sound fits = absurd p

pub returns-clause-kept : goal.returns-clause-kept
returns-clause-kept z g c b s d γ i (Kept t e n) p f sound fits = takes-kept g c b s d γ i t e n f
returns-clause-kept z g c b s d γ i _ p f sound fits = absurd p

pub returns-clause-ids : goal.returns-clause-ids
returns-clause-ids z g c b s d γ i (Ids t e got n first) p f sound fits = takes-ids g c b s d γ i t e got n first fits
returns-clause-ids z g c b s d γ i _ p f sound fits = absurd p

pub returns-clause-restarts : goal.returns-clause-restarts
returns-clause-restarts z g c b s d γ i (Restarted t e) p f sound fits = takes-restarted g c b s γ d i t e fits
returns-clause-restarts z g c b s d γ i _ p f sound fits = absurd p
