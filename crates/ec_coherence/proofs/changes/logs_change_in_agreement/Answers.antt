use Rattle.ec_coherence.proofs.ForBatches.Answered.{again-logs, again-images}
use Rattle.ec_coherence.proofs.ForBatches.LogChange.{kept-logs, kept-images, pick-logs, pick-images}
use Rattle.ec_coherence.proofs.changes.logs_change_in_agreement.Goals as goal

pub returns-clause-passed : goal.returns-clause-passed
returns-clause-passed z g a c s age k i calls b marked = (
  kept-logs g a.logs a.images c s age k i.start.owns i.start.stands i.session calls b marked,
  kept-images g a.logs a.images c s age k i.start.owns i.start.stands i.session calls b marked,
)

pub returns-clause-sent : goal.returns-clause-sent
returns-clause-sent z g a c s age k i calls asked b ns picked unspent e = (
  pick-logs g a.logs a.images c s age k i.start.owns i.start.stands i.session calls asked b ns picked unspent e,
  pick-images g a.logs a.images c s age k i.start.owns i.start.stands i.session calls asked b ns picked unspent e,
)

pub returns-clause-again : goal.returns-clause-again
returns-clause-again z g a c s age k i calls b e under = (
  again-logs g a.logs a.images c s age k i.start.owns i.start.stands i.session calls b e under,
  again-images g a.logs a.images c s age k i.start.owns i.start.stands i.session calls b e under,
)
