use Rattle.ec_lease.proofs.Kept.{no_ended}
use Rattle.ec_lease.proofs.events.is_ended.Goals as goal

pub returns-in_default : goal.returns-in_default
returns-in_default c = no_ended c.args.kind c.in_default.not-Ended
