use Rattle.ec_complete.proofs.Drills.{disks-behind}
use Rattle.ec_complete.proofs.scripts_behind.drills_write_behind.Goals as goal

pub returns : goal.returns
returns c = disks-behind
