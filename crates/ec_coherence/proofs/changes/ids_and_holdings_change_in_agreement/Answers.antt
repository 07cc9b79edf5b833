use Rattle.ec_coherence.proofs.ForBatches.GivenIds.{given-logs, given-images}
use Rattle.ec_coherence.proofs.ForBatches.HeldChange as change
use Rattle.ec_coherence.proofs.ForBatches.HeldChange.{held-logs, held-images}
use Rattle.ec_coherence.proofs.ForBatches.TakenIds.{taken-logs, taken-images}
use Rattle.ec_coherence.proofs.changes.ids_and_holdings_change_in_agreement.Goals as goal

pub returns-clause-given : goal.returns-clause-given
returns-clause-given z g a c s sl here of opened taken current d volume next_id others own v ms sent = (
  given-logs g a.sessions a.tokens a.logs a.images c s sl here of opened taken current d v ms volume next_id others own sent,
  given-images g a.sessions a.tokens a.logs a.images c s sl here of opened taken current d v ms volume next_id others own,
)

pub returns-clause-taken : goal.returns-clause-taken
returns-clause-taken z g a c s age k i calls first m current is-first writes images = (
  taken-logs g a.tokens a.logs a.images c s age k i.start.owns i.start.stands i.session calls first m current is-first writes images,
  taken-images g a.tokens a.logs a.images c s age k i.start.owns i.start.stands i.session calls first m current is-first writes images,
)

pub returns-clause-held : goal.returns-clause-held
returns-clause-held z g a c s age k now i within log calls ms m sent =
    let may : change.Holds g a.tokens a.logs a.images c s age k now i.start.owns i.start.stands i.session within log calls ms = record { writes = m.writes; ids = m.ids; rooms = m.rooms; got = m.got; images = m.images; messages = sent } in (
      held-logs g a.tokens a.logs a.images c s age k now i.start.owns i.start.stands i.session within log calls ms may,
      held-images g a.tokens a.logs a.images c s age k now i.start.owns i.start.stands i.session within log calls ms may,
    )
