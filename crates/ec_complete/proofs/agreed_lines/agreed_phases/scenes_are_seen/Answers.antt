use Rattle.ec_complete.proofs.OfAgreedLines.Seen.{scenes-seen}
use Rattle.ec_complete.proofs.agreed_lines.agreed_phases.scenes_are_seen.Goals as goal

pub returns : goal.returns
returns c = scenes-seen
