use Rattle.ec_coherence.proofs.ForBatches.Answered.{answer-logs, answer-images}
use Rattle.ec_coherence.proofs.ForBatches.CutOff.{cut-logs, cut-images}
use Rattle.ec_coherence.proofs.changes.operations_are_issued_in_agreement.Goals as goal

pub returns-clause-kept : goal.returns-clause-kept
returns-clause-kept z g a c s age k i sl here of opened u used place calls fits writes fresh = (
  answer-logs g a.sessions a.tokens a.logs a.images c s age k i.start.owns i.start.stands i.session sl here of opened u used place calls fits writes fresh,
  answer-images g a.sessions a.tokens a.logs a.images c s age k i.start.owns i.start.stands i.session sl here of opened u used place calls fits writes fresh,
)

pub returns-clause-late : goal.returns-clause-late
returns-clause-late z g a c s age k i ks cut u m ids place calls changed = (
  cut-logs g a.logs a.images c s age k i.start.owns i.start.stands i.session ks cut u m ids place calls changed,
  cut-images g a.logs a.images c s age k i.start.owns i.start.stands i.session ks cut u m ids place calls changed,
)
