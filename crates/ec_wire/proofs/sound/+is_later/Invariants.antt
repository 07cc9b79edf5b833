use Rattle.std.proofs.Common.{length, ◌-◌}
use Rattle.ec_wire.proofs.sound.+is_later.Given as goal

abbrev pub decreases-is_later : goal.decreases-is_later
decreases-is_later l = length l.entries.now - l.place
