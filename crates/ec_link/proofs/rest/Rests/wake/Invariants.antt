use Rattle.std.proofs.Common.{◌-◌, vec_len}
use Rattle.ec_link.proofs.rest.Rests.wake.Given as goal

abbrev pub decreases-frames : goal.decreases-frames
decreases-frames g l = vec_len l.self.frames - l.at
