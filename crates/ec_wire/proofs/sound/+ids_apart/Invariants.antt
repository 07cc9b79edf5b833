use Rattle.std.proofs.Common.{length, ◌-◌}
use Rattle.ec_wire.proofs.sound.+ids_apart.Given as goal

abbrev pub decreases-ids_apart : goal.decreases-ids_apart
decreases-ids_apart l = length l.entries.now - l.place
