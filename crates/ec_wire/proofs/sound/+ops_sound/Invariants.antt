use Rattle.std.proofs.Common.{length}
use Rattle.ec_wire.proofs.sound.+ops_sound.Given as goal

abbrev pub decreases-ops_sound : goal.decreases-ops_sound
decreases-ops_sound l = length l.ops.now
