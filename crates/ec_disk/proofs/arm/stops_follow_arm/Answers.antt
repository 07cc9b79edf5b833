use Rattle.ec_disk.proofs.OfArm.Calls.{stops_at_last, not_past, never_unarmed}
use Rattle.ec_disk.proofs.arm.stops_follow_arm.Goals as goal

pub returns-clause-last : goal.returns-clause-last
returns-clause-last c = stops_at_last

pub returns-clause-before : goal.returns-clause-before
returns-clause-before c = not_past

pub returns-clause-never : goal.returns-clause-never
returns-clause-never c = never_unarmed
