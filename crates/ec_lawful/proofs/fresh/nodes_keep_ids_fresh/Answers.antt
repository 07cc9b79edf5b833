use Rattle.ec_lawful.proofs.ForAsked.FreshAnswering.{answer-fresh-step}
use Rattle.ec_lawful.proofs.ForBegins.Ids.{ids-fresh}
use Rattle.ec_lawful.proofs.ForWhole.FreshSteps.{record-fresh, start-fresh}
use Rattle.ec_lawful.proofs.fresh.nodes_keep_ids_fresh.Goals as goal

pub returns-clause-starts : goal.returns-clause-starts
returns-clause-starts z = start-fresh

pub returns-clause-records : goal.returns-clause-records
returns-clause-records z = record-fresh

pub returns-clause-ids : goal.returns-clause-ids
returns-clause-ids z g c b s d γ h fa m w f after = ids-fresh g c b s d γ h fa m w f after

pub returns-clause-tries : goal.returns-clause-tries
returns-clause-tries z g c b d γ t ws cl a op rest gives suit e is l δ how t2 fa = answer-fresh-step g c b d γ t ws cl a op rest gives suit e is l δ how t2 fa
