use Rattle.std.proofs.Common.{length}
use Rattle.ec_script.specs.Lines.{lines_of}
use Rattle.ec_mount_table.proofs.ReadRows.{Reading}
use Rattle.ec_mount_table.proofs.script.read_rows.Given as goal

abbrev pub invariant-lines : goal.invariant-lines
invariant-lines l = Reading (lines_of l.script) (lines_of l.ahead) l.rows.items l.line

abbrev pub decreases-lines : goal.decreases-lines
decreases-lines l = length l.ahead
