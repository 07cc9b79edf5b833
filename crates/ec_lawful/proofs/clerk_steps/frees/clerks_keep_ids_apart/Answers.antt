use Rattle.ec_lawful.proofs.OfClerkSteps.ForNames.Stilling.{are-still, restarts-still}
use Rattle.ec_lawful.proofs.OfClerkSteps.ForDoings.FreesStored.{clerks-keep-frees, ended-keeps-frees, opened-keeps-frees, stills-keep}
use Rattle.ec_lawful.proofs.OfClerkSteps.ForDoings.StoredIds.{ids-keep-frees}
use Rattle.ec_lawful.proofs.clerk_steps.frees.clerks_keep_ids_apart.Goals as goal
use Rattle.std.proofs.Common.{inl}

pub returns-clause-change : goal.returns-clause-change
returns-clause-change z g fa c b now placed running boots calls p γ owner grants first kept frozen = clerks-keep-frees g fa c b now running boots calls p γ owner grants first kept frozen placed

pub returns-clause-steps : goal.returns-clause-steps
returns-clause-steps z g c b d e γ δ i owner grants first kept frozen fa = stills-keep g c b d γ fa e δ owner grants first kept frozen (inl i)

pub returns-clause-still : goal.returns-clause-still
returns-clause-still z = are-still

pub returns-clause-restarts : goal.returns-clause-restarts
returns-clause-restarts z = restarts-still

pub returns-clause-ids : goal.returns-clause-ids
returns-clause-ids z g c b s d γ h m w f fa = ids-keep-frees g c b s d γ h fa m w f

pub returns-clause-opened : goal.returns-clause-opened
returns-clause-opened z g c b d γ all fa none age s e untaken = opened-keeps-frees g c b d γ fa all none age s e untaken

pub returns-clause-ended : goal.returns-clause-ended
returns-clause-ended z g c b d γ fa w ls = ended-keeps-frees g c b d γ fa w ls
