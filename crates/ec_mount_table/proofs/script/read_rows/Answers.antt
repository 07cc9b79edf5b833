use Rattle.std.proofs.Common.{refl}
use Rattle.ec_script.specs.Lines.{lines_of}
use Rattle.ec_mount_table.proofs.ReadRows.{reads}
use Rattle.ec_mount_table.proofs.script.read_rows.Goals as goal

pub lines-preserved : goal.lines-preserved
lines-preserved c =
    reads (lines_of c.args.script.now) (lines_of c.lines.ahead.now) (lines_of c.split_line.result.1.now) c.split_line.result.0.now c.lines.rows.items c.lines.line c.lines.invariant c.split_line.ensures.lines
    (record { line = c.lines.line; call = c.in-Ok.call }) c.push.new.self.items refl c.in-Ok.ensures c.in_ok-push.ensures.items
