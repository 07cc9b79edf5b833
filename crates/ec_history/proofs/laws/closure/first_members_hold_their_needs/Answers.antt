use Rattle.ec_history.proofs.OfLaws.ForPlacing.Least.{taken-needed}
use Rattle.ec_history.proofs.laws.closure.first_members_hold_their_needs.Goals as goal

pub returns : goal.returns
returns c = taken-needed
