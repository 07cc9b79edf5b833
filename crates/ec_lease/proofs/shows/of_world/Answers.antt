use Rattle.ec_lease.proofs.Comes.{other_fault}
use Rattle.ec_lease.proofs.shows.of_world.Goals as goal

pub returns-in_default : goal.returns-in_default
returns-in_default c = other_fault c.args.why c.in_default.not-NoMemory
