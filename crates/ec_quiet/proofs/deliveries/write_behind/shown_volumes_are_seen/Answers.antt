use Rattle.ec_quiet.proofs.OfDeliveries.ForWriteBehind.Seen.{shown-seen}
use Rattle.ec_quiet.proofs.deliveries.write_behind.shown_volumes_are_seen.Goals as goal

pub returns : goal.returns
returns c = shown-seen
