use Rattle.ec_coherence.proofs.ForBatches.NewSession.{new-logs, new-images}
use Rattle.ec_coherence.proofs.ForBatches.OpenedSession.{opened-logs, opened-images}
use Rattle.ec_coherence.proofs.ForBatches.Told.{told-logs, told-images}
use Rattle.ec_coherence.specs.System.{is_open}
use Rattle.ec_coherence.proofs.changes.sessions_change_in_agreement.Goals as goal
use Rattle.ec_base.proofs.Bools.{not-both as no_both}

pub returns-clause-open : goal.returns-clause-open
returns-clause-open z g a c s age fresh free d here others volume next_id v ms sent = (
  new-logs g a.sessions a.logs a.images c s age fresh (λ sm p o. no_both sm.is_open o (free sm p)) d here others volume next_id v ms sent,
  new-images g a.sessions a.logs a.images c s age fresh (λ sm p o. no_both sm.is_open o (free sm p)) d here others volume next_id v ms,
)

pub returns-clause-taken : goal.returns-clause-taken
returns-clause-taken z g a c s age k i without untaken e calls ms sent = (
  opened-logs g a.sessions a.tokens a.logs a.images c s age k i.owns i.stands without untaken e calls ms sent,
  opened-images g a.sessions a.tokens a.logs a.images c s age k i.owns i.stands without untaken e calls ms,
)

pub returns-clause-left : goal.returns-clause-left
returns-clause-left z g a c s age k i over now without next calls ms sent = (
  told-logs g a.logs a.images c s age k now i.start.owns i.start.stands i.session (λ o. no_both (is_open g s) o over) without next calls ms sent,
  told-images g a.logs a.images c s age k now i.start.owns i.start.stands i.session (λ o. no_both (is_open g s) o over) without next calls ms,
)
