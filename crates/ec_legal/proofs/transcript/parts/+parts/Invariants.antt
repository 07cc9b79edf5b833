use Rattle.std.proofs.Common.{◌+◌, ◌*◌}
use Rattle.ec_legal.proofs.transcript.parts.+parts.Given as goal

abbrev pub decreases-read_parts : goal.decreases-read_parts
decreases-read_parts g l = 2 * l.parts

abbrev pub decreases-upper : goal.decreases-upper
decreases-upper g l = 2 * l.low + 1

abbrev pub decreases-lower : goal.decreases-lower
decreases-lower g l = 2 * l.high + 1
