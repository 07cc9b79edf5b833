use Rattle.ec_history.proofs.OfLaws.ForPlacing.Overwriting.{meet-place, meet-from}
use Rattle.ec_history.proofs.laws.overwrites.ranges_meet_at_a_place.Goals as goal

pub returns-clause-place : goal.returns-clause-place
returns-clause-place c = meet-place

pub returns-clause-from : goal.returns-clause-from
returns-clause-from c = meet-from
