use Rattle.std.proofs.Common.{length}
use Rattle.ec_mount.proofs.Rows.{Reading}
use Rattle.ec_mount.proofs.script.read_rows.Given as goal

abbrev pub invariant-lines : goal.invariant-lines
invariant-lines l = Reading l.script l.ahead l.rows.items l.line

abbrev pub decreases-lines : goal.decreases-lines
decreases-lines l = length l.ahead
