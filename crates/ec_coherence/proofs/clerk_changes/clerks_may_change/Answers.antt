use Rattle.ec_coherence.proofs.GoesOn.{changes-stand}
use Rattle.ec_coherence.proofs.Rests.{rests-stand}
use Rattle.ec_coherence.proofs.clerk_changes.clerks_may_change.Goals as goal

pub returns-clause-change : goal.returns-clause-change
returns-clause-change z = changes-stand

pub returns-clause-rest : goal.returns-clause-rest
returns-clause-rest z g all c s age k now in-it on same_side same_ids same_log calls ms sent told fits = rests-stand g all c s age k now in-it on same_side same_ids same_log calls ms fits sent told
