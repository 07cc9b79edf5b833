use Rattle.ec_coherence.proofs.Steps.{asks-stand, rooms-stand, wants-again-stand, wants-stand}
use Rattle.ec_coherence.proofs.clerk_changes.clerks_may_ask.Goals as goal

pub returns-clause-wants : goal.returns-clause-wants
returns-clause-wants z g c b s d γ u x h held names = (
  wants-stand g c b s d γ u.stands u.age u.owns u.boot u.session u.before x h held names,
  (λ sent. wants-again-stand g c b s d γ u.stands u.age u.owns u.boot u.session u.before x h held names sent),
)

pub returns-clause-rooms : goal.returns-clause-rooms
returns-clause-rooms z g c b s d γ u none = rooms-stand g c b s d γ u.stands u.age u.owns u.boot u.session u.before none

pub returns-clause-batches : goal.returns-clause-batches
returns-clause-batches z g c b s d γ u a sound = asks-stand g c b s d γ u.stands u.age u.owns u.boot u.session u.before a sound
